use Rattle.app_index.proofs.Numbers.{again, more}
use Rattle.app_index.proofs.apps.add.Goals as goal

pub returns-in-Some : goal.returns-in-Some
returns-in-Some c = λ apps is h. again apps c.args.app.now c.args.numbers.now.entries h c.in-Some.field-0.now (rw (← c.as_str.ensures) c.in-Some.ensures.value)

pub returns-in_ok-insert-in-None : goal.returns-in_ok-insert-in-None
returns-in_ok-insert-in-None c = λ apps is h. more apps c.args.app.now c.args.numbers.now.entries h c.insert.new.self.entries (rw (← c.as_str.ensures) c.in-None.ensures.value)
    (λ name. rw (is, ← c.as_str-in-None.ensures) (c.in_ok-insert-in-None.ensures.updates.0 (record c.as_str-in-None.result { now = name })))
