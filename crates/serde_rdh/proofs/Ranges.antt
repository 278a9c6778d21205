-- The numbers of a header that the code holds are in the range of their fields: what owning it tells.
use mathlib.Core.List.{List}
use Prim.Native.Nat.{◌<◌, ◌^◌}
use native.Mathlib.Omega.{arith}
use mir.Val.{Val}
use denote.Laws.{Is}
use denote.Struct
use Rattle.rdh.specs.declared.rdh_cru.RdhCru.{RdhCru}
use Rattle.serde_rdh.specs.Layout.{InRange, span, value}
use Rattle.serde_rdh.proofs.LayoutLaws.{every}
use Rattle.rdh.specs.contracts.rdh_cru.RdhCru.{the_type}

pub in_range : (h : RdhCru) (vs : List Val) → Is (denote.Struct.Declared.row the_type) h vs → InRange h
unfolding span value
in_range h vs is = every (λ f. value f h < 256 ^ (span f).width) (omega arith)
