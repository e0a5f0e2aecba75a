use Rattle.std.proofs.Common.{subst, sym, All, take}
use Rattle.flow_base.specs.TextBytes.{IsTextByte}
use Rattle.app_script.proofs.RunBytes.{run_bytes}
use Rattle.app_script.proofs.piece.front_piece.Goals as goal

pub name_piece-requires : goal.name_piece-requires
name_piece-requires c = subst (λ n. All IsTextByte (take n c.args.text.now)) (sym c.run_len.ensures) (run_bytes c.args.text.now)
