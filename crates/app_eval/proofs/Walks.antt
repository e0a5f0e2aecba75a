-- A body that runs by its answers, and what its walk has left.
use Rattle.std.proofs.Common.{◌≡◌, List, [], ◌∷◌, ◌++◌, Result, Ok, Err, refl, ap, sym, ◌∙◌}
use Rattle.flow_meaning.specs.declared.walk.Answer.{Answer}
use Rattle.flow_meaning.specs.Act.{Act, Give, Throw, Ask, after}
use Rattle.flow_meaning.specs.Meaning.{Done}
use Rattle.flow_meaning.specs.Run.{Ran, Gave, Threw, Asked, run}
use Rattle.app_eval.specs.Runnings.{Advances, Unended, Walk, ended_in, left_after, ran_of, wants}
use Rattle.app_eval.specs.Walks.{Resumes, act_of, answers_of, first_want, left_of}
use Rattle.app_eval.specs.declared.running.Running.{Running}
use Rattle.app_eval.specs.declared.running.Want.{Want}
use Rattle.app_eval.specs.declared.running.Want.TheVariants as want
use Rattle.app_eval.specs.declared.walker.Reply.{Reply}
use Rattle.app_eval.specs.declared.walker.Reply.TheVariants as the_reply
use Rattle.flow_meaning.specs.Sequential.{end_of}

pub act_of_begin : (a : Act Done) → act_of (run a []) ≡ a
act_of_begin (Give d) = refl
act_of_begin (Throw exception) = refl
act_of_begin (Ask request go) = refl

pub act_of_tell : (a : Act Done) (rs : List Answer) (r : Answer) → act_of (run a (rs ++ r ∷ [])) ≡ after (act_of (run a rs)) (r ∷ [])
act_of_tell (Give d) rs r = refl
act_of_tell (Throw exception) rs r = refl
act_of_tell (Ask request go) [] r = act_of_begin (go r)
act_of_tell (Ask request go) (first ∷ rs) r = act_of_tell (go first) rs r

pub want_of_run : (ran : Ran Done) → wants ran ≡ first_want (act_of ran)
want_of_run (Gave d left) = refl
want_of_run (Threw exception) = refl
want_of_run (Asked request go) = refl

pub ruleset walk_rules = (act_of_begin, act_of_tell, want_of_run)

-- ---- plain apps

pub ends_as : (a : Act Done) → ended_in (wants (run a [])) ≡ end_of a
ends_as (Give d) = refl
ends_as (Throw exception) = refl
ends_as (Ask request go) = refl

-- ---- walks

unended_by : {t u : Type 0} (w : Want) → (t → u) → Unended w t → Unended w u
unended_by (want.Ended e) f h = tt
unended_by (want.Asks request) f h = f h

resumes_as : {E : Type 0} (before now : Walk) (told : Running) (reply : Reply) (r : Result Want E)
    → act_of (ran_of [] told) ≡ after (left_of before) (answers_of reply) → Advances [] told now.running r → Resumes before now reply r
resumes_as before now told reply (Err e) is a = tt
resumes_as before now told reply (Ok w) is a = (a.0 ∙ want_of_run (ran_of [] told) ∙ ap first_want is, unended_by w (λ same. ap act_of same ∙ is) a.1)

-- with no answer
pub resumes_begin : {E : Type 0} (before now : Walk) (reply : Reply) (r : Result Want E)
    → reply ≡ the_reply.Begin → Advances [] before.running now.running r → Resumes before now reply r
resumes_begin before now reply r begin a = resumes_as before now before.running reply r (ap (λ (told : Reply). after (left_of before) (answers_of told)) (sym begin)) a

-- with one
pub resumes_told : {E : Type 0} (before now : Walk) (told : Running) (reply : Reply) (answer : Answer) (r : Result Want E)
    → reply ≡ the_reply.Told answer → ran_of [] told ≡ run (left_after [] before.running) (before.running.told.items ++ answer ∷ []) → Advances [] told now.running r → Resumes before now reply r
resumes_told before now told reply answer r told_it is a =
    resumes_as before now told reply r (ap act_of is ∙ act_of_tell (left_after [] before.running) before.running.told.items answer ∙ ap (λ (given : Reply). after (left_of before) (answers_of given)) (sym told_it)) a
