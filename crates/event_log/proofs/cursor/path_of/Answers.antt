use Rattle.std.proofs.Common.{◌≡◌, [], None, Some, ◌-◌, take, drop, length, get_or, ap, sym, ◌∙◌, arith}
use Rattle.std.specs.List.{prefix_len}
use Rattle.std.proofs.lemmas.List.{nil_from_length}
use Rattle.event_log.specs.Reading.{number_of, is_no_dot}
use Rattle.event_log.proofs.Paths.{part_at, first_of, path_goes_on, path_ends, no_path}
use Rattle.event_log.proofs.cursor.path_of.Goals as goal

pub returns-in-None : goal.returns-in-None
returns-in-None c =
    let part : c.split_at.result.0.now ≡ part_at c.loop-number.rest.now = c.split_at.ensures.front ∙ ap (λ k. take k c.loop-number.rest.now) c.part_len.ensures.value in
    let none : number_of (part_at c.loop-number.rest.now) ≡ None = ap number_of (sym part) ∙ sym c.number_of.ensures ∙ c.in-None.is in
    no_path c.loop-number.path c.loop-number.rest.now c.args.word.now none c.loop-number.invariant

pub returns-in-empty : goal.returns-in-empty
returns-in-empty c =
    let rest = c.loop-number.rest.now in
    let part : c.split_at.result.0.now ≡ part_at rest = c.split_at.ensures.front ∙ ap (λ k. take k rest) c.part_len.ensures.value in
    let some : number_of (part_at rest) ≡ Some c.in-Some.number = ap number_of (sym part) ∙ sym c.number_of.ensures ∙ c.in-Some.is in
    let behind : c.split_at.result.1.now ≡ drop (prefix_len is_no_dot rest) rest = c.split_at.ensures.back ∙ ap (λ k. drop k rest) c.part_len.ensures.value in
    let nothing : c.split_at.result.1.now ≡ [] = nil_from_length c.split_at.result.1.now (omega (arith, c.in-empty.len_below)) in
    path_ends c.loop-number.path c.in-Some.number rest c.args.word.now some (sym behind ∙ nothing) c.loop-number.invariant
    ∙ ap (λ p. Some p) (sym c.in_ok-push-in-Some.ensures.ok)

pub loop-number-preserved : goal.loop-number-preserved
loop-number-preserved c =
    let rest = c.loop-number.rest.now in
    let bytes = c.split_at.result.1.now in
    let part : c.split_at.result.0.now ≡ part_at rest = c.split_at.ensures.front ∙ ap (λ k. take k rest) c.part_len.ensures.value in
    let some : number_of (part_at rest) ≡ Some c.in-Some.number = ap number_of (sym part) ∙ sym c.number_of.ensures ∙ c.in-Some.is in
    let behind : bytes ≡ drop (prefix_len is_no_dot rest) rest = c.split_at.ensures.back ∙ ap (λ k. drop k rest) c.part_len.ensures.value in
    rw c.in_ok-push-in-Some.ensures.ok
    (path_goes_on c.loop-number.path c.in-Some.number rest (get_or bytes 0 0) (take (length bytes - 1) (drop 1 bytes)) c.args.word.now some (sym behind ∙ first_of bytes c.in-len1-up.len_at_least) c.loop-number.invariant)
