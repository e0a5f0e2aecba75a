use Rattle.std.proofs.Common.{◌∙◌, ap}
use Rattle.serde_json.proofs.Views.{view-Array}
use Rattle.sha2.specs.Sha256.{sha256}
use Rattle.memo_table.proofs.Keys.{digest_is}
use Rattle.memo_table.proofs.key.digest.Goals as goal

pub returns : goal.returns
returns c = digest_is _ _ _ _ _ c.in_ok-key_json.ensures (view-Array _) (c.digest.ensures ∙ ap sha256 c.as_slice.ensures.value) c.in_ok-text.ensures.text
