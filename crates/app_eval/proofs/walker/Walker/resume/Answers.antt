use Rattle.std.proofs.Common.{◌-◌, [], subst}
use Rattle.app_eval.specs.Runnings.{Walk}
use Rattle.app_eval.specs.Walks.{Resumes}
use Rattle.app_eval.proofs.Walks.{resumes_begin, resumes_told}
use Rattle.app_eval.proofs.walker.Walker.resume.Goals as goal

pub returns-in-Begin-clause-wants : goal.returns-in-Begin-clause-wants
returns-in-Begin-clause-wants c =
    subst (λ (before : Walk). Resumes before (record { running = c.advance.new.self; rest = c.self.inside.rest - 1 }) c.args.reply c.advance.result) c.self.view_is
    (resumes_begin (record { running = c.self.inside.running; rest = c.self.inside.rest }) (record { running = c.advance.new.self; rest = c.self.inside.rest - 1 }) c.args.reply c.advance.result c.in-Begin.is c.advance.ensures.advances)

pub returns-in_ok-tell-in-Told-clause-wants : goal.returns-in_ok-tell-in-Told-clause-wants
returns-in_ok-tell-in-Told-clause-wants c =
    subst (λ (before : Walk). Resumes before (record { running = c.advance-in-Told.new.self; rest = c.self.inside.rest - 1 }) c.args.reply c.advance-in-Told.result) c.self.view_is
    (resumes_told (record { running = c.self.inside.running; rest = c.self.inside.rest }) (record { running = c.advance-in-Told.new.self; rest = c.self.inside.rest - 1 }) c.tell.new.self c.args.reply c.in-Told.answer c.advance-in-Told.result c.in-Told.is (c.in_ok-tell-in-Told.ensures.told []) c.advance-in-Told.ensures.advances)
