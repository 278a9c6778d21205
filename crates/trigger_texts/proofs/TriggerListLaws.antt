-- Laws of the trigger list: its length.
use Rattle.std.specs.Prelude.{ℕ, ◌+◌, ◌≤◌, List, length}
use Rattle.std.proofs.Common.{arith, length-append}
use Rattle.text.specs.Ascii.{ascii}
use Rattle.text_numbers.specs.Numerals.{decimal}
use Rattle.text_numbers.specs.NumeralLaws.{length-decimal, length-right}
use Rattle.trigger_stats.specs.Counters.{Counter, InRange, count, counters}
use Rattle.trigger_texts.specs.CounterOrder.{texts_in_order}
use Rattle.trigger_texts.proofs.CounterOrderLaws.{total, total_below, length_in_order}
use Rattle.trigger_texts.specs.TriggerList.{label, line, line_of, list_text}

length-line : (s : List ℕ) → InRange s → (k : Counter) → length (line s k) ≤ length (ascii (label k)) + 11
unfolding line line_of
length-line s fits k =
    let digits = length-decimal 9 (count k s) (omega (arith, fits k)) in
    let column = length-right 6 (decimal (count k s)) in
    simp length-append (omega arith)

-- the longest list: 20 lines of 23 bytes below the title
pub longest_list : (s : List ℕ) → InRange s → length (list_text s) ≤ 480
unfolding list_text total label
longest_list s fits =
    let lines = total_below (λ k. length (line s k)) (λ k. length (ascii (label k)) + 11) (length-line s fits) counters in
    let lengths = length_in_order (line s) counters in
    omega (arith, length-append (ascii "Trigger statistics:\n") (texts_in_order (line s) counters))
