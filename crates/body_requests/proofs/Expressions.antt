-- What expressions ask and give, by what their parts do.
use Rattle.std.proofs.Common.{◌≡◌, ℕ, suc, ◌+◌, Bool, true, false, not, if◌then◌else◌, List, [], ◌∷◌, ◌++◌, length, map, zip, Option, Some, None, slice_get, refl, sym, ◌∙◌, subst, arith, length-append}
use Rattle.std.specs.Prelude.{bytes_eq, ◌-ℤ◌}
use Rattle.flow_base.specs.declared.value.Value.{Value, out-Value}
use Rattle.flow_base.specs.declared.value.Value.TheOpen.{Value-F}
use Rattle.flow_base.specs.declared.value.Value.TheVariants as v
use Rattle.flow_base.specs.declared.outcome.FileOut.{FileOut}
use Rattle.flow_base.specs.declared.outcome.Outcome.{Outcome}
use Rattle.flow_base.specs.declared.outcome.Outcome.TheVariants as o
use Rattle.script_tree.specs.declared.tree.CompareOp.{CompareOp}
use Rattle.script_tree.specs.declared.tree.SumOp.{SumOp}
use Rattle.script_tree.specs.declared.tree.TermOp.{TermOp}
use Rattle.script_tree.specs.declared.tree.UnaryOp.{UnaryOp}
use Rattle.script_tree.specs.declared.tree.UnaryOp.TheVariants as sign
use Rattle.script_tree.specs.declared.tree.BuiltIn.{BuiltIn}
use Rattle.script_tree.specs.declared.tree.BuiltIn.TheVariants as b
use Rattle.script_tree.specs.BuiltIns.{built_in_named}
use Rattle.script_tree.specs.Marks.{Mark, Applies, Calls, NamesApp, MainOnly}
use Rattle.flow_meaning.specs.declared.walk.Request.{Request}
use Rattle.flow_meaning.specs.declared.walk.Request.TheVariants as request
use Rattle.flow_meaning.specs.declared.walk.Answer.{Answer}
use Rattle.flow_meaning.specs.declared.walk.Answer.TheVariants as answer
use Rattle.flow_meaning.specs.Act.{Act, Give, ◌>>=◌, all_from}
use Rattle.flow_meaning.specs.Inputs.{Path}
use Rattle.flow_meaning.specs.Operators.{Layer, Text, int_of, text_of, list_of, truth_of, added, multiplied, indexed, number_in, ints_from, count_between, texts_of, joined}
use Rattle.flow_meaning.specs.Told.{result_of, exception_of, called_value, told_value, told_name, as_file, awaited_value, awaited_name}
use Rattle.flow_meaning.specs.Meaning.{file_fits, Vars, Calc, got, put, values, applied_to, applied, until, chain, sums, products, items_at, tested, signed, number_of, called}
use Rattle.body_requests.specs.Asks.{Each, told_by, Asks}
use Rattle.body_requests.proofs.Acts.{each_map, each_append, Grown, Gives, gives_then, asks_of_gives, gives_asks, asks_then}
use Rattle.body_requests.proofs.Operators.{Closed, truth_has, int_of_gives, text_of_gives, list_of_gives, truth_of_gives, added_gives, multiplied_gives, negated_gives, compared_gives, indexed_gives, limited_gives, len_gives, sliced_gives, number_gives, ints_have, TextsHave, texts_of_gives, file_name_gives, file_content_gives, output_gives, split_gives, has}

abbrev pub IsAwaited : Layer → Type 0
IsAwaited (Value-F.Future path outputs) = Unit {0}
IsAwaited (Value-F.Output path index) = Unit {0}
IsAwaited _ = ⊥

-- What is asked of the facts: G of values, R of requests, T of answers, M of the marks of the text, and H of files.
pub record Laws (apps : List Text) (G : List Path → Value → Type 0) (R : List Path → Request → Type 0) (T : Answer → Type 0) (M : Mark → Type 0) (H : Text → Text → Type 0) : Type 0 where
  pub closed : (ps : List Path) → Closed (G ps)
  pub grows : (ps qs : List Path) (value : Value) → Grown ps qs → G ps value → G qs value
  pub call : (ps : List Path) (app : Text) (arguments : List Value) (names : List Text) → M Calls → M (NamesApp app (length arguments) (length names)) → Each (G ps) arguments → Each (λ t. G ps (v.Text t)) names → R ps (request.Call (number_of apps app) arguments names)
  pub result : (ps : List Path) (f : Value) (name : Text) (n : ℕ) → built_in_named name ≡ Some b.Result → M (Applies name n) → IsAwaited (out-Value f) → G ps f → R ps (request.WaitValue f)
  pub exception : (ps : List Path) (f : Value) (name : Text) (n : ℕ) → built_in_named name ≡ Some b.Exception → M (Applies name n) → IsAwaited (out-Value f) → G ps f → R ps (request.WaitName f)
  pub prints : (ps : List Path) (value : Value) → M MainOnly → G ps value → R ps (request.Print value)
  pub checkpoint : (ps : List Path) → M MainOnly → R ps request.Checkpoint
  pub called : (ps : List Path) (f : Value) → T (answer.Called f) → G (told_by (answer.Called f) ++ ps) f
  pub value : (ps : List Path) (value : Value) (files : List FileOut) → T (answer.Outcome (o.Value value files)) → G ps value
  pub output : (ps : List Path) (value : Value) (files : List FileOut) (i : ℕ) (f : FileOut) → T (answer.Outcome (o.Value value files)) → slice_get files i ≡ Some f → G ps (v.File f.name f.content)
  pub written : (name content : Text) → file_fits name content ≡ true → H name content
  pub name : (ps : List Path) (outcome : Outcome) → T (answer.Outcome outcome) → G ps (v.Text (told_name outcome))

module _ (apps : List Text) (G : List Path → Value → Type 0) (R : List Path → Request → Type 0) (T : Answer → Type 0) (M : Mark → Type 0) (H : Text → Text → Type 0) (laws : Laws apps G R T M H) where
  -- ---- variables

  abbrev pub VarsHave : List Path → Vars → Type 0
  VarsHave ps vars = Each (λ e. G ps e.1) vars

  pub vars_grow : (ps qs : List Path) (vars : Vars) → Grown ps qs → VarsHave ps vars → VarsHave qs vars
  vars_grow ps qs vars g h = each_map (λ e. G ps e.1) (λ e. G qs e.1) (λ e k. laws.grows ps qs e.1 g k) vars h

  pub values_grow : (ps qs : List Path) (vs : List Value) → Grown ps qs → Each (G ps) vs → Each (G qs) vs
  values_grow ps qs vs g h = each_map (G ps) (G qs) (λ e k. laws.grows ps qs e g k) vs h

  found : (ps : List Path) (e : Text × Value) (es : Vars) (name : Text) (b : Bool) → G ps e.1 → Gives (G ps) (got es name) → Gives (G ps) (if b then Give e.1 else got es name)
  found ps e es name true h k = h
  found ps e es name false h k = k

  pub got_gives : (ps : List Path) (vars : Vars) (name : Text) → VarsHave ps vars → Gives (G ps) (got vars name)
  got_gives ps [] name h = tt
  got_gives ps (e ∷ es) name h = found ps e es name (bytes_eq e.0 name) h.0 (got_gives ps es name h.1)

  placed : (ps : List Path) (e : Text × Value) (es new : Vars) (value : Value) (b : Bool) → G ps e.1 → VarsHave ps es → G ps value → VarsHave ps new → VarsHave ps (if b then (e.0, value) ∷ es else e ∷ new)
  placed ps e es new value true h k p n = (p, k)
  placed ps e es new value false h k p n = (h, n)

  pub put_has : (ps : List Path) (vars : Vars) (name : Text) (value : Value) → VarsHave ps vars → G ps value → VarsHave ps (put vars name value)
  put_has ps [] name value h p = (p, tt)
  put_has ps (e ∷ es) name value h p = placed ps e es (put es name value) value (bytes_eq e.0 name) h.0 h.1 p (put_has ps es name value h.1 p)

  pub zip_has : (ps : List Path) (names : List Text) (vs : List Value) → Each (G ps) vs → VarsHave ps (zip names vs)
  zip_has ps [] vs h = tt
  zip_has ps (n ∷ ns) [] h = tt
  zip_has ps (n ∷ ns) (w ∷ vs) h = (h.0, zip_has ps ns vs h.1)

  -- ---- built-ins

  file_gives : (ps : List Path) (files : List FileOut) (o : Option FileOut) → ((f : FileOut) → o ≡ Some f → G ps (v.File f.name f.content)) → Gives (G ps) (as_file o)
  file_gives ps files (Some f) h = h f refl
  file_gives ps files None h = tt

  told_gives : (ps : List Path) (l : Layer) (outcome : Outcome) → T (answer.Outcome outcome) → Gives (G ps) (told_value l outcome)
  told_gives ps (Value-F.Output path i) (o.Value value files) t = file_gives ps files (slice_get files i) (λ f is. laws.output ps value files i f t is)
  told_gives ps _ (o.Value value files) t = laws.value ps value files t
  told_gives ps _ (o.Failed exception) t = tt

  awaited_asks : (ps : List Path) (l : Layer) (r : Answer) → T r → Asks R T G (told_by r ++ ps) (awaited_value l r)
  awaited_asks ps l (answer.Called f) t = tt
  awaited_asks ps l (answer.Outcome outcome) t = asks_of_gives R T G ps (told_value l outcome) (told_gives ps l outcome t)
  awaited_asks ps l answer.Go t = tt

  name_asks : (ps : List Path) (r : Answer) → T r → Asks R T G (told_by r ++ ps) (awaited_name r)
  name_asks ps (answer.Called f) t = tt
  name_asks ps (answer.Outcome outcome) t = laws.name ps outcome t
  name_asks ps answer.Go t = tt

  waits : (ps : List Path) (l : Layer) (a : Act Value) → (IsAwaited l → Asks R T G ps a) → Asks R T G ps (Rattle.flow_meaning.specs.Told.awaits l a)
  waits ps (Value-F.Future path outputs) a h = h tt
  waits ps (Value-F.Output path index) a h = h tt
  waits ps _ a h = tt

  result_asks : (ps : List Path) (f : Value) (name : Text) (n : ℕ) → built_in_named name ≡ Some b.Result → M (Applies name n) → G ps f → Asks R T G ps (result_of f)
  unfolding result_of
  result_asks ps f name n at m h = waits ps (out-Value f) _ (λ is. (laws.result ps f name n at m is h, λ r t. awaited_asks ps (out-Value f) r t))

  exception_asks : (ps : List Path) (f : Value) (name : Text) (n : ℕ) → built_in_named name ≡ Some b.Exception → M (Applies name n) → G ps f → Asks R T G ps (exception_of f)
  unfolding exception_of
  exception_asks ps f name n at m h = waits ps (out-Value f) _ (λ is. (laws.exception ps f name n at m is h, λ r t. name_asks ps r t))

  given : (ps : List Path) (a : Act Value) → Gives (G ps) a → Asks R T G ps a
  given ps a h = asks_of_gives R T G ps a h

  applied_to_asks : (built_in : BuiltIn) (name : Text) (n : ℕ) → built_in_named name ≡ Some built_in → M (Applies name n) → (ps : List Path) (vs : List Value) → Each (G ps) vs → Asks R T G ps (applied_to built_in vs)
  applied_to_asks b.Len called n at m ps (a ∷ []) h = given ps _ (len_gives (G ps) (laws.closed ps) (out-Value a))
  applied_to_asks b.Text called n at m ps (a ∷ []) h = given ps _ (gives_then (λ n. G ps (v.Int n)) (G ps) (int_of a) _ (int_of_gives (G ps) (laws.closed ps) a h.0) (λ n k. (laws.closed ps).digits n k))
  applied_to_asks b.Number called n at m ps (a ∷ []) h = given ps _ (gives_then (λ t. G ps (v.Text t)) (G ps) (text_of a) _ (text_of_gives (G ps) (laws.closed ps) a h.0) (λ t k. number_gives (G ps) (laws.closed ps) (number_in t)))
  applied_to_asks b.Slice called n at m ps (a ∷ from ∷ to ∷ []) h = given ps _ (sliced_gives (G ps) (laws.closed ps) (out-Value a) (out-Value from) (out-Value to) (has (G ps) (laws.closed ps) a h.0))
  applied_to_asks b.Range called n at m ps (a ∷ to ∷ []) h = given ps _ (gives_then (λ n. G ps (v.Int n)) (G ps) (int_of a) _ (int_of_gives (G ps) (laws.closed ps) a h.0) (λ from _.
      gives_then (λ n. G ps (v.Int n)) (G ps) (int_of to) _ (int_of_gives (G ps) (laws.closed ps) to h.1.0) (λ below _.
      limited_gives (G ps) (laws.closed ps) _ ((laws.closed ps).list (ints_from from (count_between (below -ℤ from))) (ints_have (G ps) (laws.closed ps) from (count_between (below -ℤ from)))))))
  applied_to_asks b.Append called n at m ps (a ∷ item ∷ []) h = given ps _ (gives_then (λ vs. G ps (v.List vs)) (G ps) (list_of a) _ (list_of_gives (G ps) (laws.closed ps) a h.0) (λ vs k.
      limited_gives (G ps) (laws.closed ps) _ ((laws.closed ps).list (vs ++ item ∷ []) (each_append (G ps) vs (item ∷ []) ((laws.closed ps).items vs k) (h.1.0, tt)))))
  applied_to_asks b.Split called n at m ps (a ∷ by ∷ []) h = given ps _ (gives_then (λ t. G ps (v.Text t)) (G ps) (text_of a) _ (text_of_gives (G ps) (laws.closed ps) a h.0) (λ t _.
      gives_then (λ t. G ps (v.Text t)) (G ps) (text_of by) _ (text_of_gives (G ps) (laws.closed ps) by h.1.0) (λ s _. split_gives (G ps) (laws.closed ps) t s)))
  applied_to_asks b.Concat called n at m ps (a ∷ by ∷ []) h = given ps _ (gives_then (λ vs. G ps (v.List vs)) (G ps) (list_of a) _ (list_of_gives (G ps) (laws.closed ps) a h.0) (λ vs k.
      gives_then (TextsHave (G ps) (laws.closed ps) (length vs)) (G ps) (texts_of vs) _ (texts_of_gives (G ps) (laws.closed ps) vs ((laws.closed ps).items vs k)) (λ ts _.
      gives_then (λ t. G ps (v.Text t)) (G ps) (text_of by) _ (text_of_gives (G ps) (laws.closed ps) by h.1.0) (λ s _.
      limited_gives (G ps) (laws.closed ps) _ ((laws.closed ps).text (joined s ts))))))
  applied_to_asks b.File called n at m ps (a ∷ with ∷ []) h = given ps _ (gives_then (λ t. G ps (v.Text t)) (G ps) (text_of a) _ (text_of_gives (G ps) (laws.closed ps) a h.0) (λ name _.
      gives_then (λ t. G ps (v.Text t)) (G ps) (text_of with) _ (text_of_gives (G ps) (laws.closed ps) with h.1.0) (λ content _.
      limited_gives (G ps) (laws.closed ps) _ ((laws.closed ps).file name content))))
  applied_to_asks b.Name called n at m ps (f ∷ []) h = given ps _ (file_name_gives (G ps) (laws.closed ps) (out-Value f) (has (G ps) (laws.closed ps) f h.0))
  applied_to_asks b.Content called n at m ps (f ∷ []) h = given ps _ (file_content_gives (G ps) (laws.closed ps) (out-Value f) (has (G ps) (laws.closed ps) f h.0))
  applied_to_asks b.Output called n at m ps (f ∷ i ∷ []) h = given ps _ (output_gives (G ps) (laws.closed ps) (out-Value f) (out-Value i) (has (G ps) (laws.closed ps) f h.0))
  applied_to_asks b.Result called n at m ps (f ∷ []) h = result_asks ps f called n at m h.0
  applied_to_asks b.Exception called n at m ps (f ∷ []) h = exception_asks ps f called n at m h.0
  applied_to_asks _ called n at m ps _ h = tt

  applied_by : (o : Option BuiltIn) (name : Text) (n : ℕ) → built_in_named name ≡ o → M (Applies name n) → (ps : List Path) (vs : List Value) → Each (G ps) vs → Asks R T G ps (applied o vs)
  applied_by (Some built_in) name n at m ps vs h = applied_to_asks built_in name n at m ps vs h
  applied_by None name n at m ps vs h = tt

  pub applied_asks : (name : Text) (n : ℕ) → M (Applies name n) → (ps : List Path) (vs : List Value) → Each (G ps) vs → Asks R T G ps (applied (built_in_named name) vs)
  applied_asks name n m ps vs h = applied_by (built_in_named name) name n refl m ps vs h

  -- ---- expressions

  abbrev pub Kept : Calc → Type 0
  Kept calc = (ps : List Path) (vars : Vars) → VarsHave ps vars → Asks R T G ps (calc vars)

  -- so many values, each with the fact
  abbrev pub AllHave : ℕ → List Path → List Value → Type 0
  AllHave n ps vs = Each (G ps) vs × (length vs ≡ n)

  all_asks : (es : List Calc) (ps : List Path) (vars : Vars) (given : List Value) → Each Kept es → VarsHave ps vars → Each (G ps) given → Asks R T (AllHave (length given + length es)) ps (all_from given (map (λ e. e vars) es))
  all_asks [] ps vars given h k g = (g, omega arith)
  all_asks (e ∷ es) ps vars given h k g = asks_then R T G _ ps (e vars) _ (h.0 ps vars k) (λ qs grown x has_x.
      subst (λ n. Asks R T (AllHave n) qs (all_from (given ++ x ∷ []) (map (λ e. e vars) es))) (one_more x)
      (all_asks es qs vars (given ++ x ∷ []) h.1 (vars_grow ps qs vars grown k) (each_append (G qs) given (x ∷ []) (values_grow ps qs given grown g) (has_x, tt))))
    where
      one_more : (x : Value) → length (given ++ x ∷ []) + length es ≡ length given + suc (length es)
      one_more x = omega (arith, length-append given (x ∷ []))

  pub values_asks : (es : List Calc) (ps : List Path) (vars : Vars) → Each Kept es → VarsHave ps vars → Asks R T (AllHave (length es)) ps (values vars es)
  values_asks es ps vars h k = subst (λ n. Asks R T (AllHave n) ps (values vars es)) as_many (all_asks es ps vars [] h k tt)
    where
      as_many : 0 + length es ≡ length es
      as_many = omega arith

  abbrev AnyTruth : List Path → Bool → Type 0
  AnyTruth ps b = Unit {0}

  pub condition_asks : (calc : Calc) → Kept calc → (ps : List Path) (vars : Vars) → VarsHave ps vars → Asks R T AnyTruth ps (calc vars >>= truth_of)
  condition_asks calc h ps vars k = asks_then R T G AnyTruth ps (calc vars) _ (h ps vars k) (λ qs g x has_x. asks_of_gives R T AnyTruth qs (truth_of x) (truth_of_gives (G qs) (laws.closed qs) x has_x))

  until_asks : (stop holds : Bool) (es : List Calc) → Each Kept es → (ps : List Path) (vars : Vars) → VarsHave ps vars → Asks R T AnyTruth ps (until stop vars holds es)
  until_asks true true [] h ps vars k = tt
  until_asks true false [] h ps vars k = tt
  until_asks false true [] h ps vars k = tt
  until_asks false false [] h ps vars k = tt
  until_asks true true (e ∷ es) h ps vars k = tt
  until_asks false false (e ∷ es) h ps vars k = tt
  until_asks true false (e ∷ es) h ps vars k = asks_then R T AnyTruth AnyTruth ps (e vars >>= truth_of) _ (condition_asks e h.0 ps vars k) (λ qs g holds _. until_asks true holds es h.1 qs vars (vars_grow ps qs vars g k))
  until_asks false true (e ∷ es) h ps vars k = asks_then R T AnyTruth AnyTruth ps (e vars >>= truth_of) _ (condition_asks e h.0 ps vars k) (λ qs g holds _. until_asks false holds es h.1 qs vars (vars_grow ps qs vars g k))

  pub chain_kept : (stop : Bool) (first : Calc) (es : List Calc) → Kept first → Each Kept es → Kept (chain stop first es)
  chain_kept stop first [] h hs ps vars k = h ps vars k
  chain_kept stop first (e ∷ es) h hs ps vars k = asks_then R T AnyTruth G ps (first vars >>= truth_of) _ (condition_asks first h ps vars k) (λ qs g holds _.
      asks_then R T AnyTruth G qs (until stop vars holds (e ∷ es)) _ (until_asks stop holds (e ∷ es) hs qs vars (vars_grow ps qs vars g k)) (λ rs g2 all _. truth_has (G rs) (laws.closed rs) all))

  pub sums_asks : (ps : List Path) (vars : Vars) (left : Value) (es : List (SumOp × Calc)) → VarsHave ps vars → G ps left → Each (λ e. Kept e.1) es → Asks R T G ps (sums vars left es)
  sums_asks ps vars left [] k p h = p
  sums_asks ps vars left (e ∷ es) k p h = asks_then R T G G ps (e.1 vars) _ (h.0 ps vars k) (λ qs g right q.
      gives_asks R T (G qs) G qs (added e.0 left right) _ (added_gives (G qs) (laws.closed qs) e.0 left right (laws.grows ps qs left g p) q) (λ sum s. sums_asks qs vars sum es (vars_grow ps qs vars g k) s h.1))

  pub products_asks : (ps : List Path) (vars : Vars) (left : Value) (es : List (TermOp × Calc)) → VarsHave ps vars → G ps left → Each (λ e. Kept e.1) es → Asks R T G ps (products vars left es)
  products_asks ps vars left [] k p h = p
  products_asks ps vars left (e ∷ es) k p h = asks_then R T G G ps (e.1 vars) _ (h.0 ps vars k) (λ qs g right q.
      gives_asks R T (G qs) G qs (multiplied e.0 left right) _ (multiplied_gives (G qs) (laws.closed qs) e.0 left right (laws.grows ps qs left g p) q) (λ product s. products_asks qs vars product es (vars_grow ps qs vars g k) s h.1))

  pub items_asks : (ps : List Path) (vars : Vars) (from : Value) (es : List Calc) → VarsHave ps vars → G ps from → Each Kept es → Asks R T G ps (items_at vars from es)
  items_asks ps vars from [] k p h = p
  items_asks ps vars from (e ∷ es) k p h = asks_then R T G G ps (e vars) _ (h.0 ps vars k) (λ qs g i q.
      gives_asks R T (G qs) G qs (indexed from i) _ (indexed_gives (G qs) (laws.closed qs) from i (laws.grows ps qs from g p)) (λ item s. items_asks qs vars item es (vars_grow ps qs vars g k) s h.1))

  pub tested_kept : (left : Calc) (op : CompareOp) (right : Calc) → Kept left → Kept right → Kept (tested left (Some (op, right)))
  tested_kept left op right h j ps vars k = asks_then R T G G ps (left vars) _ (h ps vars k) (λ qs g a p.
      asks_then R T G G qs (right vars) _ (j qs vars (vars_grow ps qs vars g k)) (λ rs g2 c q. given rs _ (compared_gives (G rs) (laws.closed rs) op a c)))

  pub signed_gives : (op : Option UnaryOp) (ps : List Path) (a : Value) → G ps a → Gives (G ps) (signed op a)
  signed_gives None ps a h = h
  signed_gives (Some sign.Minus) ps a h = negated_gives (G ps) (laws.closed ps) a h
  signed_gives (Some sign.Not) ps a h = gives_then (λ b. Unit {0}) (G ps) (truth_of a) _ (truth_of_gives (G ps) (laws.closed ps) a h) (λ holds _. truth_has (G ps) (laws.closed ps) (not holds))

  -- ---- calls

  called_asks : (ps : List Path) (r : Answer) → T r → Asks R T G (told_by r ++ ps) (called_value r)
  called_asks ps (answer.Called f) t = laws.called ps f t
  called_asks ps (answer.Outcome outcome) t = tt
  called_asks ps answer.Go t = tt

  counted : (app : Text) (n m k l : ℕ) → n ≡ k → m ≡ l → M (NamesApp app k l) → M (NamesApp app n m)
  counted app n m k l e d h = subst (λ i. M (NamesApp app i m)) (sym e) (subst (λ i. M (NamesApp app k i)) (sym d) h)

  pub called_kept : (app : Text) (arguments names : List Calc) → M Calls → M (NamesApp app (length arguments) (length names)) → Each Kept arguments → Each Kept names → Kept (called apps app arguments names)
  called_kept app arguments names calls c h j ps vars k = asks_then R T (AllHave (length arguments)) G ps (values vars arguments) _ (values_asks arguments ps vars h k) (λ qs g vs is.
      asks_then R T (AllHave (length names)) G qs (values vars names) _ (values_asks names qs vars j (vars_grow ps qs vars g k)) (λ rs g2 ns are.
      gives_asks R T (TextsHave (G rs) (laws.closed rs) (length ns)) G rs (texts_of ns) _ (texts_of_gives (G rs) (laws.closed rs) ns are.0) (λ ts n.
      (laws.call rs app vs ts calls (counted app (length vs) (length ts) (length arguments) (length names) is.1 (n.1 ∙ are.1) c) (values_grow qs rs vs g2 is.0) n.0, λ r t. called_asks rs r t))))
