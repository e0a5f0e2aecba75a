use Rattle.std.proofs.Common.{◌<◌, arith}
use Rattle.std.proofs.lemmas.List.Elements.{All-weaker}
use Rattle.std.proofs.lemmas.Str.{IsUtf8-from_ascii}
use Rattle.std.proofs.lemmas.Str.Ascii.{IsAscii-from_all}
use Rattle.flow_base.specs.TextBytes.{IsTextByte}
use Rattle.flow_base.proofs.text.Text.from_bytes.Goals as goal

pub unwrap-requires : goal.unwrap-requires
unwrap-requires c =
    let bytes = c.args.bytes.items in
    c.from_utf8.ensures.succeeds (IsUtf8-from_ascii bytes (IsAscii-from_all bytes (All-weaker IsTextByte (λ b. b < 128) (λ b h. grind arith) bytes c.requires)))
