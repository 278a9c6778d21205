-- Proof that every reply in a list of verdicts follows from the settings, the starting state and the calls up to it (D3.7).
use Rattle.std.specs.Prelude.{Bool, true, false, ◌≡◌, refl, List, [], ◌∷◌, ◌++◌, leb, length}
use Rattle.std.proofs.Common.{ap, ◌∙◌}
use Rattle.basis.specs.Pick.{pick}
use Rattle.rdh.specs.declared.rdh_cru.RdhCru.{RdhCru}
use Rattle.validators.specs.declared.HeaderId.{HeaderId}
use Rattle.validators.specs.declared.HeaderId.TheVariants.{Configured, NotSettled, Settled}
use Rattle.validators.specs.declared.RdhCruSanityValidator.{RdhCruSanityValidator}
use Rattle.validators.specs.Verdict.{holding, settled_by, text_of, validator_after}
use Rattle.validators.specs.Verdicts.{Call, Reply, first_settled, replies, reply, settled_over, settling, validator_over}
use Rattle.validators.specs.VerdictsClaims.{Follows}

-- the validator as the calls leave it, one after the other
left : RdhCruSanityValidator → List Call → RdhCruSanityValidator
left v [] = v
left v (c ∷ cs) = left (validator_after v c.header c.room) cs

same : (b : Bool) (v : RdhCruSanityValidator) → pick b v v ≡ v
same true v = refl
same false v = refl

-- a configured or settled ID stays
stays : (v : RdhCruSanityValidator) → ((h : RdhCru) → settled_by v h ≡ v) → (cs : List Call) → left v cs ≡ v
unfolding left validator_after
stays v keeps [] = refl
stays v keeps (c ∷ cs) =
    let kept : validator_after v c.header c.room ≡ v =
    ap (λ (w : RdhCruSanityValidator). pick (leb (length (text_of v c.header)) c.room) w v) (keeps c.header)
    ∙ same (leb (length (text_of v c.header)) c.room) v in
    ap (λ (w : RdhCruSanityValidator). left w cs) kept ∙ stays v keeps cs

-- where none is settled, the first call that is not refused settles its own
first : (v : RdhCruSanityValidator) (cs : List Call) → left (holding v NotSettled) cs ≡ holding v (first_settled v cs)
unfolding left first_settled settling validator_after settled_by
first v [] = refl
first v (c ∷ cs) = go (settling v c) (first v cs)
  where
    settled : HeaderId
    settled = Settled c.header.rdh0.header_id

    go : (b : Bool) → left (holding v NotSettled) cs ≡ holding v (first_settled v cs)
        → left (pick b (holding v settled) (holding v NotSettled)) cs ≡ holding v (pick b settled (first_settled v cs))
    go true ih = stays (holding v settled) (λ h. refl) cs
    go false ih = ih

over : (v : RdhCruSanityValidator) (cs : List Call) → left v cs ≡ validator_over v cs
unfolding validator_over settled_over settled_by
over v cs = go v.header_id
  where
    go : (i : HeaderId) → left (holding v i) cs ≡ holding v (settled_over v i cs)
    go (Configured n) = stays (holding v (Configured n)) (λ h. refl) cs
    go NotSettled = first v cs
    go (Settled n) = stays (holding v (Settled n)) (λ h. refl) cs

in-turn : (v : RdhCruSanityValidator) (earlier : List Call) (c : Call) (later : List Call)
    → replies v (earlier ++ (c ∷ later))
    ≡ replies v earlier ++ (reply (left v earlier) c ∷ replies (left v (earlier ++ (c ∷ []))) later)
unfolding replies left
in-turn v [] c later = refl
in-turn v (e ∷ earlier) c later =
    ap (λ (rs : List Reply). reply v e ∷ rs) (in-turn (validator_after v e.header e.room) earlier c later)

pub follows : Follows
follows v earlier c later =
    in-turn v earlier c later
    ∙ (λ i. replies v earlier ++ (reply (over v earlier i) c ∷ replies (over v (earlier ++ (c ∷ [])) i) later))
