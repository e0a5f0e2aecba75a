use Rattle.std.proofs.Common.{arith, ◌≡◌, nat_eq, get_or, true, false, refl}
use Rattle.std.proofs.lemmas.Bool.Decides.{nat_tests}
use Rattle.app_eval.proofs.Splits.{cut_preserved, grow_preserved}
use Rattle.app_eval.proofs.texts.pieces.Goals as goal
use Rattle.app_eval.proofs.texts.pieces.Goals.{then-byte-separator+in_ok-push, else-byte-separator+in_ok-push-2}

pub loop-byte-preserved : goal.loop-byte-preserved
loop-byte-preserved c =
    let b = get_or c.args.text.now c.loop-byte.byte-index 0 in
    elim c.if-byte-separator.branch [
      | then-byte-separator+in_ok-push w ↦
          let h = w.if-byte-separator.true in
          let is : nat_eq b c.args.separator ≡ true = grind (arith, nat_tests) in
          rw (w.pieces-is, w.piece-is, w.new-piece-then-byte-separator.ensures)
          (cut_preserved (λ x. nat_eq x c.args.separator) c.args.text.now c.loop-byte.byte-index b c.loop-byte.piece c.loop-byte.pieces w.push.new.self _ (omega arith) refl is w.in_ok-push.ensures.ok c.loop-byte.invariant)
      | else-byte-separator+in_ok-push-2 w ↦
          let h = w.if-byte-separator.false in
          let is : nat_eq b c.args.separator ≡ false = grind (arith, nat_tests) in
          rw (w.pieces-is, w.piece-is)
          (grow_preserved (λ x. nat_eq x c.args.separator) c.args.text.now c.loop-byte.byte-index b c.loop-byte.piece w.push-else-byte-separator.new.self c.loop-byte.pieces _ (omega arith) refl is w.in_ok-push-2.ensures.ok c.loop-byte.invariant)
    ]
