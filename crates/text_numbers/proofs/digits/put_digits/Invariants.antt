use Rattle.std.proofs.Common.{ℕ, not, eqb, map}
use denote.Param.{number, value_of}
use Rattle.text_numbers.specs.Numerals.{cased, numeral}
use Rattle.text_numbers.specs.FillLaws.{Filled}
use Rattle.text_numbers.proofs.digits.put_digits.Given as goal

-- how a digit is spelt
abbrev pub spelt : goal.Over → ℕ → ℕ
spelt g = cased (not (eqb (value_of (number g.row.UPPER)) 0))

abbrev pub invariant-loop-rest : goal.invariant-loop-rest
invariant-loop-rest g l =
    Filled (spelt g) g.row.BASE g.row.PLACES (map (spelt g) (numeral g.row.BASE g.row.PLACES l.n)) l.rest l.first l.digits

abbrev pub decreases-loop-rest : goal.decreases-loop-rest
decreases-loop-rest g l = l.rest
