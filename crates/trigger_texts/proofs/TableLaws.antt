-- Tables that have a text for each counter, as labels and names: what stands in one at a counter's place, where the table is a list of the
-- texts, as the code has it, and where it is one row of bytes behind the other.
use Rattle.std.proofs.Common.{◌≡◌, refl, ℕ, zero, suc, ◌+◌, ◌*◌, ◌-◌, ◌≤◌, ◌<◌, List, [], ◌∷◌, ◌++◌, map, get_or, drop, replicate, Bor}
use Rattle.std.proofs.Common.{ap, sym, ◌∙◌, le_of_suc-le-suc, arith, take_all, take_at}
use Rattle.std.proofs.Math.ListN.{length, take, get_or-map as get_or-map_same}
use Rattle.std.proofs.Math.Nat.{mul-zero, mul-suc}
use Rattle.std.proofs.Math.Seq.{drop-append-add, take-append-le}
use Rattle.std.proofs.lemmas.List.{get_or-map}
use Rattle.text.specs.Ascii.{ascii}
use Rattle.text_numbers.specs.NumeralLaws.{length_left}
use Rattle.text_numbers.specs.Numerals.{left}
use Rattle.trigger_stats.specs.Counters.{Counter, counter_at, counters, orbit}
use Rattle.trigger_stats.proofs.CountersLaws.{number_at}
use Rattle.trigger_texts.specs.CounterOrder.{texts_in_order}
use Rattle.trigger_texts.specs.Mismatches.{name}
use Rattle.trigger_texts.specs.TriggerList.{label}

pub text_at : (text : Counter → List ℕ) (table : List (Bor (List ℕ))) (place : ℕ) (d : Bor (List ℕ)) → map (λ b. b.now) table ≡ map text counters
    → place < 20 → (get_or table place d).now ≡ text (counter_at place)
text_at text table place d same below =
    sym (get_or-map_same (λ b. b.now) table place d) ∙ ap (λ (texts : List (List ℕ)). get_or texts place d.now) same
    ∙ get_or-map text counters place orbit d.now below

-- ---- a row of bytes for each counter, one behind the other and all of one width

module _ (row : Counter → List ℕ) (width : ℕ) where
  abbrev Wide : List Counter → Type 0
  Wide [] = Unit
  Wide (k ∷ ks) = (length (row k) ≡ width) × Wide ks

  row_in : (ks : List Counter) → Wide ks → (place n : ℕ) → place < length ks → n ≤ width
      → take n (drop (width * place) (texts_in_order row ks)) ≡ take n (row (get_or ks place orbit))
  unfolding texts_in_order
  row_in [] wide place n below fits = absurd (omega arith)
  row_in (k ∷ ks) wide zero n below fits =
      let start : width * 0 ≡ 0 = mul-zero width in
      ap (λ (x : ℕ). take n (drop x (row k ++ texts_in_order row ks))) start
      ∙ take-append-le n (row k) (texts_in_order row ks) (omega arith)
  row_in (k ∷ ks) wide (suc place) n below fits =
      let start : width * suc place ≡ length (row k) + width * place = omega (arith, mul-suc width place) in
      ap (λ (x : ℕ). take n (drop x (row k ++ texts_in_order row ks))) start
      ∙ ap (λ (t : List ℕ). take n t) (drop-append-add (row k) (texts_in_order row ks) (width * place))
      ∙ row_in ks wide.1 place n (le_of_suc-le-suc below) fits

  wide_in : (ks : List Counter) → Wide ks → (place : ℕ) → place < length ks → length (row (get_or ks place orbit)) ≡ width
  wide_in [] wide place below = absurd (omega arith)
  wide_in (k ∷ ks) wide zero below = wide.0
  wide_in (k ∷ ks) wide (suc place) below = wide_in ks wide.1 place (le_of_suc-le-suc below)

-- The row of a label.
abbrev pub label_row : Counter → List ℕ
label_row k = ascii (label k)

wide_labels : Wide label_row 12 counters
unfolding label
wide_labels = omega arith

pub label_at : (place : ℕ) → place < 20
    → take (12 * place + 12 - 12 * place) (drop (12 * place) (texts_in_order label_row counters)) ≡ ascii (label (counter_at place))
label_at place below =
    let width : 12 * place + 12 - 12 * place ≡ 12 = omega arith in
    ap (λ (n : ℕ). take n (drop (12 * place) (texts_in_order label_row counters))) width
    ∙ row_in label_row 12 counters wide_labels place 12 below (omega arith)
    ∙ take_all 12 (label_row (counter_at place)) (omega (arith, wide_in label_row 12 counters wide_labels place below))

-- The row of a name, filled up with blanks; and the name's length.
abbrev pub name_row : Counter → List ℕ
name_row k = left 8 (ascii (name k))

abbrev pub name_length : Counter → ℕ
name_length k = length (ascii (name k))

wide_names : Wide name_row 8 counters
unfolding left name
wide_names = omega arith

pub short_name : (place : ℕ) → place < 20 → get_or (map name_length counters) place 0 ≤ 8
short_name place below =
    omega (
      arith,
      number_at name_length place below,
      wide_in name_row 8 counters wide_names place below,
      length_left 8 (ascii (name (counter_at place))),
    )

pub name-at : (place : ℕ) → place < 20
    → take (8 * place + get_or (map name_length counters) place 0 - 8 * place) (drop (8 * place) (texts_in_order name_row counters))
    ≡ ascii (name (counter_at place))
unfolding left
name-at place below =
    let text = ascii (name (counter_at place)) in
    let is = number_at name_length place below in
    let width : 8 * place + get_or (map name_length counters) place 0 - 8 * place ≡ length text = omega arith in
    ap (λ (n : ℕ). take n (drop (8 * place) (texts_in_order name_row counters))) width
    ∙ row_in name_row 8 counters wide_names place (length text) below (omega (arith, short_name place below))
    ∙ take_at text (replicate (8 - length text) 32) (length text) refl
