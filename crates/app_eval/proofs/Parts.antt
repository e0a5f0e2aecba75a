-- Runs of a part of a body, and of the whole that goes on behind it.
use Rattle.std.proofs.Common.{◌≡◌, List, Some, Result, Ok, Err, inl, inr, ap, sym, ◌∙◌}
use Rattle.flow_base.specs.declared.outcome.Exception.{Exception}
use Rattle.flow_meaning.specs.declared.walk.Answer.{Answer}
use Rattle.flow_meaning.specs.declared.walk.Request.{Request}
use Rattle.flow_meaning.specs.Act.{Act, ◌>>=◌}
use Rattle.flow_meaning.specs.Run.{Ran, Gave, Threw, Asked, run, then_run, request_of}
use Rattle.flow_meaning.proofs.Run.{run-bind}
use Rattle.body_program.specs.Meaning.{Store, Flow}
use Rattle.app_eval.specs.declared.frame.Flow.{Flow as FlowOf}
use Rattle.app_eval.specs.declared.position.Interrupt.{Interrupt}
use Rattle.app_eval.specs.declared.position.Interrupt.TheVariants as h
use Rattle.app_eval.specs.Does.{Runs}
use Rattle.app_eval.specs.Frames.{flow_of}
use Rattle.app_eval.specs.Interrupts.{Wraps, WrapsResult, mapped}

asks_still : {A B : Type 0} (ran : Ran A) (next : A → Act B) (request : Request) → request_of ran ≡ Some request → request_of (then_run ran next) ≡ Some request
asks_still (Gave a rs) next request e = absurd (cc)
asks_still (Threw exception) next request e = absurd (cc)
asks_still (Asked other go) next request e = e

-- the whole asks where its part does
pub asks_then : {A B : Type 0} (a : Act A) (next : A → Act B) (rs : List Answer) (request : Request) → request_of (run a rs) ≡ Some request → request_of (run (a >>= next) rs) ≡ Some request
asks_then a next rs request e = rw (run-bind a next rs) (asks_still (run a rs) next request e)

-- what is left of the part, and then what comes behind
pub same_then : {A B : Type 0} (a b : Act A) (next : A → Act B) (rs r2 : List Answer) → run b r2 ≡ run a rs → run (b >>= next) r2 ≡ run (a >>= next) rs
same_then a b next rs r2 e = run-bind b next r2 ∙ ap (λ (ran : Ran _). then_run ran next) e ∙ sym (run-bind a next rs)

pub gave_then : {A B : Type 0} (a : Act A) (next : A → Act B) (rs r1 : List Answer) (x : A) → run a rs ≡ Gave x r1 → run (a >>= next) rs ≡ run (next x) r1
gave_then a next rs r1 x e = run-bind a next rs ∙ ap (λ (ran : Ran _). then_run ran next) e

pub threw_then : {A B : Type 0} (a : Act A) (next : A → Act B) (rs : List Answer) (exception : Exception) → run a rs ≡ Threw exception → run (a >>= next) rs ≡ Threw exception
threw_then a next rs exception e = run-bind a next rs ∙ ap (λ (ran : Ran _). then_run ran next) e

-- a part that halts, and the whole in which it stands
pub halts_then : {P Q A B C D : Type 0} (given : C → Store → A) (given_by : D → Store → B) (rest : P → Store → Act A) (whole : Q → Store → Act B) (into : P → Q) (a : Act A) (next : A → Act B) (halt : Interrupt P) (s : Store) (rs told : List Answer) → ((p : P) → whole (into p) s ≡ (rest p s >>= next)) → Runs given rest (Err halt) s told (run a rs) → Runs given_by whole (Err (mapped into halt)) s told (run (a >>= next) rs)
halts_then given given_by rest whole into a next (h.Raised exception) s rs told same ran = threw_then a next rs exception ran
halts_then given given_by rest whole into a next (h.Asks request place) s rs told same ran = (asks_then a next rs request ran.0, rw (same place) (same_then a (rest place s) next rs told ran.1))
halts_then given given_by rest whole into a next h.NoMemory s rs told same ran = tt

wrapped : {P Q B D : Type 0} (given : D → Store → B) (whole : Q → Store → Act B) (into : P → Q) (halt : Interrupt P) (other : Interrupt Q) (s : Store) (told : List Answer) (ran : Ran B) → Wraps into halt other → Runs given whole (Err (mapped into halt)) s told ran → Runs given whole (Err other) s told ran
wrapped given whole into halt other s told ran (inl e) runs = rw e runs
wrapped given whole into halt other s told ran (inr e) runs = rw e tt

pub wraps_then : {P Q A B C D : Type 0} (given : C → Store → A) (given_by : D → Store → B) (rest : P → Store → Act A) (whole : Q → Store → Act B) (into : P → Q) (a : Act A) (next : A → Act B) (halt : Interrupt P) (other : Interrupt Q) (s : Store) (rs told : List Answer) → ((p : P) → whole (into p) s ≡ (rest p s >>= next)) → Wraps into halt other → Runs given rest (Err halt) s told (run a rs) → Runs given_by whole (Err other) s told (run (a >>= next) rs)
wraps_then given given_by rest whole into a next halt other s rs told same wraps ran = wrapped given_by whole into halt other s told (run (a >>= next) rs) wraps (halts_then given given_by rest whole into a next halt s rs told same ran)

moved : {P Q B D : Type 0} (given : D → Store → B) (rest : P → Store → Act B) (whole : Q → Store → Act B) (into : P → Q) (halt : Interrupt P) (s : Store) (told : List Answer) (ran : Ran B) → ((p : P) → whole (into p) s ≡ rest p s) → Runs given rest (Err halt) s told ran → Runs given whole (Err (mapped into halt)) s told ran
moved given rest whole into (h.Raised exception) s told ran same runs = runs
moved given rest whole into (h.Asks request place) s told ran same runs = (runs.0, rw (same place) runs.1)
moved given rest whole into h.NoMemory s told ran same runs = tt

-- a block that is the last part of a whole
pub wraps_runs : {P Q : Type 0} (rest : P → Store → Act Flow) (whole : Q → Store → Act Flow) (into : P → Q) (result : Result FlowOf (Interrupt P)) (other : Result FlowOf (Interrupt Q)) (s : Store) (told : List Answer) (ran : Ran Flow) → ((p : P) → whole (into p) s ≡ rest p s) → WrapsResult into result other → Runs flow_of rest result s told ran → Runs flow_of whole other s told ran
wraps_runs rest whole into (Ok flow) other s told ran same wraps runs = rw wraps runs
wraps_runs rest whole into (Err halt) (Ok flow) s told ran same wraps runs = absurd wraps
wraps_runs rest whole into (Err halt) (Err other) s told ran same wraps runs = wrapped flow_of whole into halt other s told ran wraps (moved flow_of rest whole into halt s told ran same runs)
