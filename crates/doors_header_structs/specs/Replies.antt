-- What C is answered about headers.
use Rattle.std.specs.Prelude.{[], eqb}
use Rattle.basis.specs.Pick.{pick}
use Rattle.basis.specs.Refusals.{Answer, gives, refuses}
use Rattle.rdh.specs.Subfields.{bc_of, bc_reserved_of, cru_id_of, data_format_of, dw_of, is_pht_trigger_type}
use Rattle.rdh.specs.declared.rdh_cru.RdhCru.{RdhCru}
use Rattle.serde_rdh.specs.Layout.{header}
use Rattle.doors_header_structs.specs.Plain.{header_of, plain_header}
use Rattle.doors_header_structs.specs.declared.plain.PlainHeader.{PlainHeader}
use Rattle.doors_header_structs.specs.declared.replies.PlainDecoded.{PlainDecoded}
use Rattle.doors_header_structs.specs.declared.replies.PlainHeaderParts.{PlainHeaderParts}

-- The header that has 0 in each field.
unfoldable pub zero_header : PlainHeader
zero_header = plain_header (header (λ f. 0))

-- The header that bytes hold, or the refusal's number with zeros.
abbrev pub plain_decoded : Answer RdhCru → PlainDecoded
plain_decoded (gives h) = record { header = plain_header h; refusal = 0 }
plain_decoded (refuses number values) = record { header = zero_header; refusal = number }

-- What that says.
abbrev pub decoded_of : PlainDecoded → Answer RdhCru
decoded_of n = pick (eqb n.refusal 0) (gives (header_of n.header)) (refuses n.refusal [])

-- The fields of a header that share a number with others, and whether it has a physics trigger: each by its bits.
abbrev pub parts_of : RdhCru → PlainHeaderParts
parts_of h =
    record {
      bc_reserved = bc_reserved_of h.rdh1.bc_reserved0.0;
      bc = bc_of h.rdh1.bc_reserved0.0;
      cru_id = cru_id_of h.cruid_dw.0;
      dw = dw_of h.cruid_dw.0;
      data_format = data_format_of h.dataformat_reserved0.0;
      is_pht_trigger = is_pht_trigger_type h.rdh2.trigger_type;
    }
