-- Laws of the filter by a stave's name: with neither link nor FEE id set, it takes the headers of the stave named, and no others.
use Rattle.std.specs.Prelude.{◌≡◌, Bool, true, List, ℕ, Option, Some, None}
use Rattle.std.proofs.Common.{ap, ap₂, sym, ◌∙◌}
use Rattle.rdh.specs.Subfields.{layer_of, stave_of}
use Rattle.its.specs.FeeIds.{same_stave, stave_fee_id}
use Rattle.its.specs.FeeIdLaws.{layer_kept, stave_kept, same_stave_lem, of_one_stave}
use Rattle.its_names.specs.StaveNames.{named_fee}
use Rattle.its_names.specs.StaveNameGrammar.{NamesStave}
use Rattle.its_names.specs.StaveNameLaws.{stave_given}
use Rattle.filter.specs.declared.FilterOpt.{FilterOpt}
use Rattle.filter.specs.Filter.{first_set, target_of, matches}
use Rattle.filter_names.specs.StaveSetting.{stave_set}

-- Whether a header is taken, once the filter by stave is set by a name.
abbrev pub taken : FilterOpt → List ℕ → ℕ → ℕ → Bool
taken opt name link fee = matches (target_of (stave_set (named_fee name) opt)) link fee

-- it is compared with the stave named
compared : (opt : FilterOpt) (name : List ℕ) (layer stave link fee : ℕ) → NamesStave name layer stave
    → opt.filter_link ≡ None → opt.filter_fee ≡ None → taken opt name link fee ≡ same_stave fee (stave_fee_id layer stave)
compared opt name layer stave link fee r no-link no-fee =
    ap (λ a. matches (target_of (stave_set a opt)) link fee) (stave_given name layer stave r)
    ∙ ap₂ (λ (l f : Option ℕ). matches (first_set l f (Some (stave_fee_id layer stave))) link fee) no-link no-fee

pub of_the_stave : (opt : FilterOpt) (name : List ℕ) (layer stave link fee : ℕ) → NamesStave name layer stave
    → opt.filter_link ≡ None → opt.filter_fee ≡ None
    → layer_of fee ≡ layer → stave_of fee ≡ stave → taken opt name link fee ≡ true
of_the_stave opt name layer stave link fee r no-link no-fee layers staves =
    compared opt name layer stave link fee r no-link no-fee
    ∙ same_stave_lem fee (stave_fee_id layer stave)
    (layers ∙ sym (layer_kept layer stave r.layer_there r.stave_there))
    (staves ∙ sym (stave_kept layer stave r.layer_there r.stave_there))

pub no_other_stave : (opt : FilterOpt) (name : List ℕ) (layer stave link fee : ℕ) → NamesStave name layer stave
    → opt.filter_link ≡ None → opt.filter_fee ≡ None
    → taken opt name link fee ≡ true → (layer_of fee ≡ layer) × (stave_of fee ≡ stave)
no_other_stave opt name layer stave link fee r no-link no-fee is-taken =
    let same = of_one_stave fee (stave_fee_id layer stave) (sym (compared opt name layer stave link fee r no-link no-fee) ∙ is-taken) in
    (same.0 ∙ layer_kept layer stave r.layer_there r.stave_there, same.1 ∙ stave_kept layer stave r.layer_there r.stave_there)
