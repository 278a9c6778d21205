-- Laws of the filter: one is set exactly where not everything is taken by it, and a stave filter looks at layer and stave alone.
use Rattle.std.specs.Prelude.{◌≡◌, refl, Bool, true, false, ◌||◌, ℕ, eqb, Option, Some, None, is_some}
use Rattle.std.proofs.Common.{ap, sym, ◌∙◌, true≢false, arith}
use Rattle.rdh.specs.Subfields.{layer_of, stave_of}
use Rattle.its.specs.FeeIdLaws.{layer_stave, same_stave_numbers}
use Rattle.filter.specs.declared.FilterOpt.{FilterOpt}
use Rattle.filter.specs.declared.FilterTarget.{FilterTarget}
use Rattle.filter.specs.declared.FilterTarget.TheVariants.{Link, Fee, ItsLayerStave, All}
use Rattle.filter.specs.Filter.{first_set, target_of, enabled, matches}

-- Whether a header is compared at all: it is with every target but `All`.
abbrev pub compares : FilterTarget → Bool
compares (Link id) = true
compares (Fee id) = true
compares (ItsLayerStave id) = true
compares All = false

any_compares : (link fee stave : Option ℕ)
    → (is_some link || is_some fee) || is_some stave ≡ compares (first_set link fee stave)
any_compares (Some n) fee stave = refl
any_compares None (Some n) stave = refl
any_compares None None (Some n) = refl
any_compares None None None = refl

-- a filter is set exactly where the target is not `All`
pub enabled-compares : (opt : FilterOpt) → enabled opt ≡ compares (target_of opt)
enabled-compares opt = any_compares opt.filter_link opt.filter_fee opt.filter_its_stave

pub not_compared : (target : FilterTarget) → compares target ≡ false → target ≡ All
not_compared (Link id) e = absurd (true≢false e)
not_compared (Fee id) e = absurd (true≢false e)
not_compared (ItsLayerStave id) e = absurd (true≢false e)
not_compared All e = refl

pub none_set : (opt : FilterOpt) → enabled opt ≡ false → target_of opt ≡ All
none_set opt none = not_compared (target_of opt) (sym (enabled-compares opt) ∙ none)

pub one_set : (opt : FilterOpt) → enabled opt ≡ true → target_of opt ≡ All → ⊥
one_set opt set all = true≢false (sym set ∙ enabled-compares opt ∙ ap compares all)

-- where no filter is set, every header matches
pub all-taken : (opt : FilterOpt) (link fee : ℕ) → enabled opt ≡ false → matches (target_of opt) link fee ≡ true
all-taken opt link fee none = ap (λ (target : FilterTarget). matches target link fee) (none_set opt none)

-- a stave filter takes a FEE id by whatever uplink it comes
pub same_layer_stave : (id link fee fee' : ℕ) → layer_of fee ≡ layer_of fee' → stave_of fee ≡ stave_of fee'
    → matches (ItsLayerStave id) link fee ≡ matches (ItsLayerStave id) link fee'
same_layer_stave id link fee fee' layers staves =
    let equal : layer_stave fee ≡ layer_stave fee' = omega arith in
    same_stave_numbers fee id ∙ ap (λ (n : ℕ). eqb n (layer_stave id)) equal ∙ sym (same_stave_numbers fee' id)

-- the stave filter 0x502A takes 0x522A (E6)
pub other_uplink_taken : (link : ℕ) → matches (ItsLayerStave 0x502A) link 0x522A ≡ true
other_uplink_taken link = same_stave_numbers 0x522A 0x502A
