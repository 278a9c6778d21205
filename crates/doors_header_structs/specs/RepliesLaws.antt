-- Laws of the reply to bytes: it tells its answer.
use Rattle.std.specs.Prelude.{ℕ, List, [], ◌≡◌, refl, ltb, length}
use Rattle.basis.specs.PickLaws.{by_test}
use Rattle.basis.specs.Refusals.{Answer, gives, refuses}
use Rattle.rdh.specs.declared.rdh_cru.RdhCru.{RdhCru}
use Rattle.serde_rdh.specs.Layout.{decode, decoded}
use Rattle.doors_header_structs.specs.Replies.{decoded_of, plain_decoded}

-- decoding, whether refused or not
pub decoded_again : (s : List ℕ) → decoded_of (plain_decoded (decode s)) ≡ decode s
unfolding decode
decoded_again s =
    by_test (λ (a : Answer RdhCru). decoded_of (plain_decoded a) ≡ a) (ltb (length s) 64) (refuses 9 []) (gives (decoded s)) (λ _. refl)
    (λ _. refl)
