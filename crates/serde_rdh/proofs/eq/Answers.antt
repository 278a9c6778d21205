-- Equal words are equal bytes, and bytes say which header it is, since each of its numbers fits them.
use Rattle.std.specs.Prelude.{◌≡◌, true, ◌↔◌}
use Rattle.std.proofs.Common.{◌∙◌, ap, sym}
use Rattle.serde_rdh.specs.Layout.{encoded}
use Rattle.serde_rdh.proofs.LayoutLaws.{same_bytes}
use Rattle.serde_rdh.proofs.eq.Goals as goal

pub returns : goal.returns
returns c =
    let start = c.args in
    let mine = c.words.ensures in
    let theirs = c.words-2.ensures in
    let same = c.same_words.ensures in
    let bytes : (c.same_words.result ≡ true) ↔ (encoded start.rdh ≡ encoded start.other) =
    (λ t. sym mine.bytes ∙ same.0 t ∙ theirs.bytes, λ e. same.1 (mine.bytes ∙ e ∙ sym theirs.bytes)) in
    record {
      by_bytes = bytes;
      as_headers = (λ t. (same_bytes start.rdh start.other mine.fits theirs.fits).0 (bytes.0 t), λ e. bytes.1 (ap encoded e));
    }
