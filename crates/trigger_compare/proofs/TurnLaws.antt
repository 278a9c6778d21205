-- Steps of a turn that puts a counter's line: the line is that of the counter at the turn's place, and its name is the one that a table of all
-- names has there.
use Rattle.std.proofs.Common.{◌≡◌, ℕ, ◌+◌, ◌*◌, ◌-◌, ◌<◌, List, map, get_or, take, drop, ap, ap₂, ◌∙◌}
use Rattle.text.specs.Ascii.{ascii}
use Rattle.text.specs.Put.{Put}
use Rattle.text.specs.PutLaws.{respelled}
use Rattle.trigger_stats.specs.Counters.{Counter, count, counter_at, counters}
use Rattle.trigger_texts.specs.CounterOrder.{texts_in_order}
use Rattle.trigger_texts.specs.FieldMismatches.{counter_mismatch, mismatch_if_any}
use Rattle.trigger_texts.specs.Mismatches.{name}
use Rattle.trigger_texts.proofs.TableLaws.{name-at, name_length, name_row}

-- what is put with a counter's name and its two counts is what is put for that counter
pub of-counter : {l m : List ℕ} {i j expected got : ℕ} {named : Counter} (self other : List ℕ) (k : Counter)
    → Put l i (mismatch_if_any (ascii (name named)) expected got) m j → named ≡ k → expected ≡ count k other → got ≡ count k self
    → Put l i (counter_mismatch self other k) m j
of-counter {expected = expected} {got = got} self other k p here others own =
    respelled
    (ap (λ (n : Counter). mismatch_if_any (ascii (name n)) expected got) here ∙ ap₂ (mismatch_if_any (ascii (name k))) others own) p

-- The part of a table that has the name of counter `k`.
abbrev pub row : ℕ → List ℕ → List ℕ
row k table = take (8 * k + get_or (map name_length counters) k 0 - 8 * k) (drop (8 * k) table)

-- of a table that has the counters' names in their order, it is the counter's name
pub of-table : {l m table : List ℕ} {i j : ℕ} (k : ℕ) → k < 20 → Put l i (row k table) m j → table ≡ texts_in_order name_row counters
    → Put l i (ascii (name (counter_at k))) m j
of-table k below p names = respelled (ap (row k) names ∙ name-at k below) p
