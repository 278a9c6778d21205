-- What owning a validator and a header tells: the header ID that headers are held to is a byte, so that 512 bytes are enough for a verdict.
use Prim.Native.Nat.{ℕ, ◌<◌}
use mathlib.Core.Bool.{Bool}
use mathlib.Core.Path.{◌≡◌}
use mathlib.Core.List.{List}
use Rattle.std.specs.Prelude.{Result}
use native.Mathlib.Omega.{arith}
use lib.ListN.{length}
use mir.Val.{Val}
use denote.Laws.{Is}
use denote.Struct
use Rattle.rdh.specs.declared.rdh_cru.RdhCru.{RdhCru}
use Rattle.rdh.specs.contracts.rdh_cru.RdhCru.{the_type as header-type}
use Rattle.serde_rdh.proofs.Ranges.{in_range}
use Rattle.serde_rdh.specs.Layout.{InRange, span, value}
use Rattle.serde_rdh.specs.Layout.Field.{header-id}
use Rattle.validators.specs.Lent.{ChecksLent}
use Rattle.validators.specs.Verdict.{expected_id}
use Rattle.validators.specs.declared.HeaderId.{HeaderId}
use Rattle.validators.specs.declared.HeaderId.TheVariants.{Configured, NotSettled, Settled}
use Rattle.validators.specs.declared.RdhCruSanityValidator.{RdhCruSanityValidator}
use Rattle.validators.specs.declared.Verdict.{Verdict}
use Rattle.text.specs.declared.TooShort.{TooShort}
use Rattle.validators.specs.contracts.RdhCruSanityValidator.{the_type}
use Rattle.listing_packet.specs.VerdictLineLaws.{Told, told}

expected_byte : (i : HeaderId) (its : Bool) (id : ℕ) (vs : List Val) → id < 256
    → Is (denote.Struct.Declared.row the_type) (record { header_id = i; its = its }) vs → expected_id i id < 256
expected_byte (Configured n) its id vs small is = omega arith
expected_byte NotSettled its id vs small is = small
expected_byte (Settled n) its id vs small is = omega arith

-- the header ID of a header is one too
id_byte : (h : RdhCru) → InRange h → h.rdh0.header_id < 256
unfolding span value
id_byte h fits = omega (arith, fits header-id)

pub held_to : (v : RdhCruSanityValidator) (h : RdhCru) (vs : List Val) → Is (denote.Struct.Declared.row the_type) v vs → InRange h
    → expected_id v.header_id h.rdh0.header_id < 256
held_to v h vs is fits = expected_byte v.header_id v.its h.rdh0.header_id vs (id_byte h fits) is

pub told_of : (v : RdhCruSanityValidator) (h : RdhCru) {vs ws : List Val} {l m : List ℕ} {r : Result Verdict TooShort} {after : RdhCruSanityValidator}
    → Is (denote.Struct.Declared.row the_type) v vs → Is (denote.Struct.Declared.row header-type) h ws → length l ≡ 512
    → ChecksLent v h l r after m → Told v h r after m
told_of v h {vs} {ws} {l} {m} {r} {after} is-v is-h room checks =
    let fits = in_range h ws is-h in
    told v h (held_to v h vs is-v fits) fits l room r after m checks.verdict checks.validator checks.leaves
