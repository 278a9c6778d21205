-- Laws of what is gathered along a list: of two lists behind one another, of what was gathered before, and of two lists member by member.
use Rattle.std.specs.Prelude.{◌≡◌, refl}
use Rattle.std.proofs.Common.{ap, sym, ◌∙◌}
use mathlib.Core.List.{List, [], ◌∷◌, ◌++◌, append_assoc, flat_map, map, map-append}
use Rattle.basis.specs.Each.{Each}

-- What holds of each of two lists behind one another holds of each of both.
pub each_part : {A : Type 0} (P : A → Type 0) (xs ys : List A) → Each P (xs ++ ys) → Each P xs × Each P ys
each_part P [] ys each = (tt, each)
each_part P (x ∷ xs) ys (this, others) =
    let (front, back) = each_part P xs ys others in
    ((this, front), back)

-- Of two lists, one behind the other.
pub gathered_both : {A B : Type 0} (f : A → List B) (xs ys : List A) → flat_map f (xs ++ ys) ≡ flat_map f xs ++ flat_map f ys
unfolding flat_map
gathered_both f [] ys = refl
gathered_both f (x ∷ xs) ys =
    ap (λ (zs : List _). f x ++ zs) (gathered_both f xs ys) ∙ sym (append_assoc (f x) (flat_map f xs) (flat_map f ys))

-- Of what was gathered before.
pub gathered_twice : {A B C : Type 0} (g : B → List C) (f : A → List B) (xs : List A)
    → flat_map g (flat_map f xs) ≡ flat_map (λ x. flat_map g (f x)) xs
unfolding flat_map
gathered_twice g f [] = refl
gathered_twice g f (x ∷ xs) =
    gathered_both g (f x) (flat_map f xs) ∙ ap (λ (zs : List _). flat_map g (f x) ++ zs) (gathered_twice g f xs)

-- What was gathered, each member said in another way.
pub gathered_as : {A B C : Type 0} (g : B → C) (f : A → List B) (xs : List A) → map g (flat_map f xs) ≡ flat_map (λ x. map g (f x)) xs
unfolding flat_map
gathered_as g f [] = refl
gathered_as g f (x ∷ xs) = map-append g (f x) (flat_map f xs) ∙ ap (λ (zs : List _). map g (f x) ++ zs) (gathered_as g f xs)

-- Two lists, member by member.
abbrev pub Pairwise : {A B : Type 0} → (A → B → Type 0) → List A → List B → Type 0
Pairwise R [] [] = Unit {0}
Pairwise R [] (y ∷ ys) = ⊥
Pairwise R (x ∷ xs) [] = ⊥
Pairwise R (x ∷ xs) (y ∷ ys) = R x y × Pairwise R xs ys

-- Where members that stand in the same place tell the same, so do the lists.
pub gathered_alike : {A B C : Type 0} (R : A → B → Type 0) (f : A → List C) (g : B → List C) → ((x : A) (y : B) → R x y → f x ≡ g y)
    → (xs : List A) (ys : List B) → Pairwise R xs ys → flat_map f xs ≡ flat_map g ys
unfolding flat_map
gathered_alike R f g same [] [] pairs = refl
gathered_alike R f g same [] (y ∷ ys) pairs = absurd pairs
gathered_alike R f g same (x ∷ xs) [] pairs = absurd pairs
gathered_alike R f g same (x ∷ xs) (y ∷ ys) (here, pairs) = λ i. same x y here i ++ gathered_alike R f g same xs ys pairs i
