-- How a command on a script goes, by how its read went and how the printing ended.
use Rattle.std.proofs.Common.{◌≡◌, inl, inr, None, ℕ, Bool, true, false, List, [], ◌∷◌, ◌++◌, length, refl, sym, ◌∙◌, ap, subst, arith, Some, Vec, Global, Ok, Err}
use Rattle.std.specs.declared.result.Result.{Result}
use Rattle.std.proofs.lemmas.List.{take_all}
use Rattle.flow_base.specs.Shelf.{ShelfState, Reads}
use Rattle.flow_base.specs.Sink.{SinkState, Adds}
use Rattle.flow_base.specs.declared.shelf.ShelfFault.{ShelfFault}
use Rattle.flow_base.specs.declared.shelf.ShelfFault.TheVariants.{Failed, NoMemory as no_memory}
use Rattle.parsl_engine.specs.declared.words.Command.{Command}
use Rattle.parsl_engine.specs.declared.script.ScriptRefusal.{ScriptRefusal}
use Rattle.parsl_engine.specs.declared.exit.Exit.{Exit}
use Rattle.parsl_engine.specs.declared.exit.Exit.TheVariants.{Done, Raised, Refused, Unread, Unwritten, Limited, NoMemory}
use Rattle.stored_units.specs.declared.units.Limit.{Limit}
use Rattle.parsl_engine.specs.declared.output.Output.{Output}
use Rattle.parsl_engine.specs.declared.script.ScriptFault.{ScriptFault}
use Rattle.parsl_engine.specs.declared.script.ScriptFault.TheVariants as fault
use Rattle.parsl_engine.specs.Exits.{exit_of, exit_unread}
use Rattle.parsl_engine.specs.Output.{Prints, Produces, Limits}
use Rattle.parsl_engine.specs.Scripts.{IsFaulty}
use Rattle.parsl_engine.specs.Tellings.{Ledgers}
use Rattle.parsl_engine.specs.Course.{status_of, read_limit, read_of, WritesPart, WritesWhole, Wrote, Printed, Answers, Course}
use Rattle.parsl_engine.proofs.Refusals.{one_fault, not_refused, not_limited, limited_not_refused}

-- refusals of the same name are the same, and so are limits
refused_is : (a b : ScriptRefusal) → Refused a ≡ Refused b → a ≡ b
refused_is a b e = cc

limited_is : (a b : Limit) → Limited a ≡ Limited b → a ≡ b
limited_is a b e = cc

module _ (c : Command) (bytes : List ℕ) (tells : Bool) (out out' : SinkState) (told told' : Ledgers) where
  -- ---- how an output is printed

  whole : (output : Output) (raised : Bool) → output.raised ≡ raised → Prints c bytes output.text.items output.raised told told' → Adds tells out out' output.text.items → WritesWhole c bytes raised tells out out' told told'
  whole output raised is prints adds = record {
    output = output.text.items;
    prints = subst (λ (b : Bool). Prints c bytes output.text.items b told told') is prints;
    whole = adds;
  }

  by_fault : (fault : ScriptFault) (exit : Exit) → Produces c bytes (Err fault) told told' → exit ≡ exit_of fault → out' ≡ out → Printed c bytes exit tells out out' told told'
  by_fault (fault.Refused refusal) exit p is same = subst (λ (e : Exit). Printed c bytes e tells out out' told told') (sym is) (p.0, same, p.1)
  by_fault (fault.Limited l) exit p is same = subst (λ (e : Exit). Printed c bytes e tells out out' told told') (sym is) (p.0, same, p.1)
  by_fault fault.NoMemory exit p is same = subst (λ (e : Exit). Printed c bytes e tells out out' told told') (sym is) (same, p)

  by_exit : (output : Output) (exit : Exit) → Prints c bytes output.text.items output.raised told told' → Wrote (Ok output) exit tells out out' → Printed c bytes exit tells out out' told told'
  by_exit output Done p w = whole output false w.0 p w.1
  by_exit output Raised p w = whole output true w.0 p w.1
  by_exit output Unwritten p w = (record { output = output.text.items; raised = output.raised; prints = p; part = w.0 }, w.1)
  by_exit output (Refused refusal) p w = absurd w
  by_exit output Unread p w = absurd w
  by_exit output (Limited l) p w = absurd w
  by_exit output NoMemory p w = absurd w

  printed : (r : Result Output ScriptFault) (exit : Exit) → Produces c bytes r told told' → Wrote r exit tells out out' → Printed c bytes exit tells out out' told told'
  printed (Ok output) exit p w = by_exit output exit p w
  printed (Err fault) exit p w = by_fault fault exit p w.0 w.1

  -- ---- what an exit says

  all_is_part : (raised : Bool) → WritesWhole c bytes raised tells out out' told told' → WritesPart c bytes tells out out' told told'
  all_is_part raised w = record {
    output = w.output;
    raised = raised;
    prints = w.prints;
    part = λ t. record { count = length w.output; taken = w.whole t ∙ ap (λ (l : List ℕ). out.taken ++ l) (sym (take_all (length w.output) w.output (omega arith))) };
  }

  answered : (e : Exit) → Printed c bytes e tells out out' told told' → Answers c bytes e tells out out' told told'
  answered Done p = record {
    done = λ z. p;
    raised = λ z. absurd (cc);
    refused = λ r z. absurd (cc);
    causes = λ r h. absurd (not_refused c bytes p.output false told told' r p.prints h);
    limited = λ l z. absurd (cc);
    limits = λ l h. absurd (not_limited c bytes p.output false told told' l p.prints h);
    unwritten = λ z. absurd (cc);
    not_unread = λ z. absurd (cc);
    part = inr (all_is_part false p);
    told_at = tt;
  }
  answered Raised p = record {
    done = λ z. absurd (cc);
    raised = λ z. p;
    refused = λ r z. absurd (cc);
    causes = λ r h. absurd (not_refused c bytes p.output true told told' r p.prints h);
    limited = λ l z. absurd (cc);
    limits = λ l h. absurd (not_limited c bytes p.output true told told' l p.prints h);
    unwritten = λ z. absurd (cc);
    not_unread = λ z. absurd (cc);
    part = inr (all_is_part true p);
    told_at = tt;
  }
  answered (Refused r) p = record {
    done = λ z. absurd (cc);
    raised = λ z. absurd (cc);
    refused = λ other z. subst (IsFaulty bytes) (refused_is r other z) p.0;
    causes = λ other h. inl (ap Refused (sym (one_fault bytes r other p.0 h)));
    limited = λ l z. absurd (cc);
    limits = λ l h. absurd (limited_not_refused c bytes l r h p.0);
    unwritten = λ z. absurd (cc);
    not_unread = λ z. absurd (cc);
    part = inl p.1;
    told_at = p.2;
  }
  answered (Limited l) p = record {
    done = λ z. absurd (cc);
    raised = λ z. absurd (cc);
    refused = λ r z. absurd (cc);
    causes = λ r h. absurd (limited_not_refused c bytes l r p.0 h);
    limited = λ other z. subst (Limits c bytes) (limited_is l other z) p.0;
    limits = λ other h. inl tt;
    unwritten = λ z. absurd (cc);
    not_unread = λ z. absurd (cc);
    part = inl p.1;
    told_at = p.2;
  }
  answered Unwritten p = record {
    done = λ z. absurd (cc);
    raised = λ z. absurd (cc);
    refused = λ r z. absurd (cc);
    causes = λ r h. absurd (not_refused c bytes p.0.output p.0.raised told told' r p.0.prints h);
    limited = λ l z. absurd (cc);
    limits = λ l h. absurd (not_limited c bytes p.0.output p.0.raised told told' l p.0.prints h);
    unwritten = λ z. p;
    not_unread = λ z. absurd (cc);
    part = inr p.0;
    told_at = tt;
  }
  answered NoMemory p = record {
    done = λ z. absurd (cc);
    raised = λ z. absurd (cc);
    refused = λ r z. absurd (cc);
    causes = λ r h. inr refl;
    limited = λ l z. absurd (cc);
    limits = λ l h. inr refl;
    unwritten = λ z. absurd (cc);
    not_unread = λ z. absurd (cc);
    part = inl p.0;
    told_at = p.1;
  }
  answered Unread p = absurd p

abbrev was_read : Vec ℕ Global → Result (Vec ℕ Global) ShelfFault
was_read bytes = Ok bytes

abbrev not_read : ShelfFault → Result (Vec ℕ Global) ShelfFault
not_read fault = Err fault

module _ (c : Command) (name : List ℕ) (shelf_tells out_tells : Bool) (shelf shelf' : ShelfState) (out out' : SinkState) (told told' : Ledgers) where
  pub course-read : (bytes : Vec ℕ Global) (r : Result Output ScriptFault) (e : Exit) → Reads shelf_tells name read_limit shelf (was_read bytes) shelf' → Produces c bytes.items r told told' → Wrote r e out_tells out out'
      → Course c name e shelf_tells out_tells shelf shelf' out out' told told'
  course-read bytes r e read produces wrote =
      let answers = answered c bytes.items out_tells out out' told told' e (printed c bytes.items out_tells out out' told told' r e produces wrote) in
      record {
        given = Some bytes.items;
        gave = read.bytes;
        answers = answers;
        not_given = λ none. absurd (cc);
        nothing = λ none. absurd (cc);
        unread = λ six. absurd (answers.not_unread six);
        kept = λ z. read.count;
        calls = λ t. record { made = read_of name ∷ []; added = read.calls t; follows = (refl, refl, (λ f. absurd (cc)), tt) };
        one_read = read.calls;
      }

  pub course-unread : (fault : ShelfFault) (e : Exit) → Reads shelf_tells name read_limit shelf (not_read fault) shelf' → e ≡ exit_unread fault → out' ≡ out → told' ≡ told → Course c name e shelf_tells out_tells shelf shelf' out out' told told'
  course-unread Failed e read is same kept = record {
    given = None;
    gave = tt;
    answers = tt;
    not_given = λ none. inl is;
    nothing = λ none. (same, kept);
    unread = λ six. read.count.1;
    kept = λ other. absurd (other is);
    calls = λ t. record { made = _; added = read.calls t; follows = (refl, refl, (λ f. refl), tt) };
    one_read = tt;
  }
  course-unread no_memory e read is same kept = record {
    given = None;
    gave = tt;
    answers = tt;
    not_given = λ none. inr is;
    nothing = λ none. (same, kept);
    unread = λ six. absurd (let other = sym six ∙ is in cc);
    kept = λ other. read.count;
    calls = λ t. record { made = []; added = read.calls t; follows = tt };
    one_read = tt;
  }

-- no order ends with the status of words that mean nothing
pub not_two : (e : Exit) → status_of e ≡ 2 → ⊥
not_two Done two = omega (arith, two)
not_two Raised two = omega (arith, two)
not_two (Refused refusal) two = omega (arith, two)
not_two Unread two = omega (arith, two)
not_two Unwritten two = omega (arith, two)
not_two (Limited l) two = omega (arith, two)
not_two NoMemory two = omega (arith, two)
