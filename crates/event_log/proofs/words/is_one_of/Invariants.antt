use Rattle.std.proofs.Common.{◌≡◌, map, drop}
use Rattle.event_log.specs.LogWords.{is_one_of}
use Rattle.event_log.proofs.words.is_one_of.Given as goal

abbrev pub invariant-loop-key : goal.invariant-loop-key
invariant-loop-key l =
    is_one_of (map (λ key. key.now) (drop l.key-index l.keys)) l.word ≡ is_one_of (map (λ key. key.now) l.keys) l.word
