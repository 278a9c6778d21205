-- Laws of texts of counters: they are put one behind the other, and their length is the sum of the lengths.
use Rattle.std.specs.Prelude.{ℕ, ◌+◌, ◌≤◌, ◌<◌, Bool, true, false, ◌≡◌, refl, List, [], ◌∷◌, ◌++◌, length, take}
use Rattle.std.proofs.Common.{sym, ap, ◌∙◌, append_assoc, append-nil, add-one, arith, length-append, take-suc}
use Rattle.basis.specs.Pick.{pick}
use Rattle.text.specs.Put.{Put}
use Rattle.text.specs.PutLaws.{and_then, respelled}
use Rattle.trigger_stats.specs.Counters.{Counter, counter_at, counters}
use Rattle.trigger_stats.specs.Counters.{orbit, hb, hbr, hc, pht, pp, cal, sot, eot, soc, eoc, tf, fe-rst, rt, rs}
use Rattle.trigger_stats.specs.Counters.{lhc-gap1, lhc-gap2, tpc-sync, tpc-rst, tof}
use Rattle.trigger_texts.specs.CounterOrder.{texts_in_order}

in_order_append : (text : Counter → List ℕ) (ks js : List Counter) → texts_in_order text (ks ++ js) ≡ texts_in_order text ks ++ texts_in_order text js
unfolding texts_in_order
in_order_append text [] js = refl
in_order_append text (k ∷ ks) js =
    ap (λ (t : List ℕ). text k ++ t) (in_order_append text ks js) ∙ sym (append_assoc (text k) (texts_in_order text ks) (texts_in_order text js))

-- a counter that is left out where a test holds has its text where the test fails
pub in_order_unless : (text : Counter → List ℕ) (test : Bool) (k : Counter) (ks : List Counter)
    → texts_in_order text (pick test ks (k ∷ ks)) ≡ pick test [] (text k) ++ texts_in_order text ks
unfolding texts_in_order
in_order_unless text true k ks = refl
in_order_unless text false k ks = refl

-- the texts of the counters before a place of the table, then that of the one at it
pub next_one : (text : Counter → List ℕ) (place : ℕ) → place < 20
    → texts_in_order text (take (place + 1) counters) ≡ texts_in_order text (take place counters) ++ text (counter_at place)
unfolding texts_in_order
next_one text place below =
    let last = text (counter_at place) in
    let more : take (place + 1) counters ≡ take place counters ++ (counter_at place ∷ []) =
    ap (λ (k : ℕ). take k counters) (add-one place) ∙ take-suc counters place orbit below in
    ap (λ (ks : List Counter). texts_in_order text ks) more
    ∙ in_order_append text (take place counters) (counter_at place ∷ [])
    ∙ ap (λ (t : List ℕ). texts_in_order text (take place counters) ++ t) (append-nil last)

-- so what is put at a place, behind the texts before it, puts one text more
pub next_put : {l m n : List ℕ} {i j e : ℕ} (text : Counter → List ℕ) (place : ℕ) → place < 20
    → Put l i (texts_in_order text (take place counters)) m j → Put m j (text (counter_at place)) n e
    → Put l i (texts_in_order text (take (place + 1) counters)) n e
next_put text place below p q = respelled (sym (next_one text place below)) (and_then p q)

-- ---- lengths

-- The sum of some counters' numbers.
unfoldable pub total : (Counter → ℕ) → List Counter → ℕ
total n [] = 0
total n (k ∷ ks) = n k + total n ks

pub length_in_order : (text : Counter → List ℕ) (ks : List Counter) → length (texts_in_order text ks) ≡ total (λ k. length (text k)) ks
unfolding texts_in_order total
length_in_order text [] = refl
length_in_order text (k ∷ ks) = omega (arith, length_in_order text ks, length-append (text k) (texts_in_order text ks))

pub total_below : (m n : Counter → ℕ) → ((k : Counter) → m k ≤ n k) → (ks : List Counter) → total m ks ≤ total n ks
unfolding total
total_below m n below [] = omega arith
total_below m n below (k ∷ ks) = omega (arith, below k, total_below m n below ks)

-- a counter's number is no more than the sum of all
pub one_of_total : (n : Counter → ℕ) (k : Counter) → n k ≤ total n counters
unfolding total
one_of_total n orbit = omega arith
one_of_total n hb = omega arith
one_of_total n hbr = omega arith
one_of_total n hc = omega arith
one_of_total n pht = omega arith
one_of_total n pp = omega arith
one_of_total n cal = omega arith
one_of_total n sot = omega arith
one_of_total n eot = omega arith
one_of_total n soc = omega arith
one_of_total n eoc = omega arith
one_of_total n tf = omega arith
one_of_total n fe-rst = omega arith
one_of_total n rt = omega arith
one_of_total n rs = omega arith
one_of_total n lhc-gap1 = omega arith
one_of_total n lhc-gap2 = omega arith
one_of_total n tpc-sync = omega arith
one_of_total n tpc-rst = omega arith
one_of_total n tof = omega arith
