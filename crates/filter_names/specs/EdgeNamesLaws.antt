-- Names at the edges of the rules, with their answers (N5, N6): each computes.
use Rattle.std.specs.Prelude.{◌≡◌, refl, List, [], ◌∷◌, ℕ}
use Prim.Native.String.{String}
use Rattle.basis.specs.Refusals.{gives, refuses}
use Rattle.its_names_numbers.specs.Numbers.{are_all_digits, digits_number, number_of, value_of}
use Rattle.its_names.specs.StaveNames.{before, behind, fee_of_stave, named_fee}
use Rattle.its_names.specs.StaveNameLaws.{l9_70_refused}
use Rattle.text.specs.Ascii.{ascii}

-- A name, and the FEE id that it stands for or refusal 8.
pub data Edge : Type 0 where
  stave : String → (id : ℕ) → Edge
  no_stave : String → Edge

abbrev pub Answered : Edge → Type 0
Answered (stave name id) = named_fee (ascii name) ≡ gives id
Answered (no_stave name) = named_fee (ascii name) ≡ refuses 8 []

abbrev pub AllAnswered : List Edge → Type 0
AllAnswered [] = Unit {0}
AllAnswered (e ∷ es) = Answered e × AllAnswered es

-- the highest of all, with a stave or a layer more, and in other words; layer 1 and stave 6 by a fold; and the highest numbers
pub edges : AllAnswered
    (stave "L6_47" 0x602F ∷ no_stave "L6_48" ∷ no_stave "L7_0" ∷ no_stave "L0_48"
    ∷ stave "L06_047" 0x602F ∷ stave "L+6_+47" 0x602F
    ∷ no_stave "L9_70"
    ∷ no_stave "L255_255" ∷ no_stave "L256_0"
    ∷ [])
unfolding named_fee fee_of_stave before behind number_of digits_number are_all_digits value_of
edges = (refl, (refl, (refl, (refl, (refl, (refl, (l9_70_refused, (refl, (refl, tt)))))))))
