-- What the folds over values make of each value.
use Rattle.std.proofs.Common.{◌≡◌, ℕ, List, map, ap, ◌∙◌, sym}
use Rattle.std.specs.Prelude.{ℤ}
use Rattle.flow_base.specs.declared.value.Value.{Value, out-Value, out-roll-Value, fold-roll-Value}
use Rattle.flow_base.specs.declared.value.Value.TheOpen.{Value-F}
use Rattle.flow_base.specs.declared.value.Value.TheVariants as v
use Rattle.flow_base.specs.Values.{units, units_step, levels, levels_step, is_plain, plain_step}
use Rattle.run_report.specs.Shown.{shown, shown_step}

pub out-int : (n : ℤ) → out-Value (v.Int n) ≡ Value-F.Int n
out-int n = ap out-Value (sym (v.rolls-Int n)) ∙ out-roll-Value _

pub out-text : (t : List ℕ) → out-Value (v.Text t) ≡ Value-F.Text t
out-text t = ap out-Value (sym (v.rolls-Text t)) ∙ out-roll-Value _

pub out-list : (vs : List Value) → out-Value (v.List vs) ≡ Value-F.List vs
out-list vs = ap out-Value (sym (v.rolls-List vs)) ∙ out-roll-Value _

pub out-file : (name content : List ℕ) → out-Value (v.File name content) ≡ Value-F.File name content
out-file name content = ap out-Value (sym (v.rolls-File name content)) ∙ out-roll-Value _

pub out-future : (path : List ℕ) (outputs : ℕ) → out-Value (v.Future path outputs) ≡ Value-F.Future path outputs
out-future path outputs = ap out-Value (sym (v.rolls-Future path outputs)) ∙ out-roll-Value _

pub out-output : (path : List ℕ) (index : ℕ) → out-Value (v.Output path index) ≡ Value-F.Output path index
out-output path index = ap out-Value (sym (v.rolls-Output path index)) ∙ out-roll-Value _

pub out-nothing : out-Value v.Nothing ≡ Value-F.Nothing
out-nothing = ap out-Value (sym v.rolls-Nothing) ∙ out-roll-Value _

pub units-int : (n : ℤ) → units (v.Int n) ≡ units_step (Value-F.Int n)
unfolding units
units-int n = ap units (sym (v.rolls-Int n)) ∙ fold-roll-Value _ _ _

pub units-text : (t : List ℕ) → units (v.Text t) ≡ units_step (Value-F.Text t)
unfolding units
units-text t = ap units (sym (v.rolls-Text t)) ∙ fold-roll-Value _ _ _

pub units-list : (vs : List Value) → units (v.List vs) ≡ units_step (Value-F.List (map units vs))
unfolding units
units-list vs = ap units (sym (v.rolls-List vs)) ∙ fold-roll-Value _ _ _

pub units-file : (name content : List ℕ) → units (v.File name content) ≡ units_step (Value-F.File name content)
unfolding units
units-file name content = ap units (sym (v.rolls-File name content)) ∙ fold-roll-Value _ _ _

pub units-future : (path : List ℕ) (outputs : ℕ) → units (v.Future path outputs) ≡ units_step (Value-F.Future path outputs)
unfolding units
units-future path outputs = ap units (sym (v.rolls-Future path outputs)) ∙ fold-roll-Value _ _ _

pub units-output : (path : List ℕ) (index : ℕ) → units (v.Output path index) ≡ units_step (Value-F.Output path index)
unfolding units
units-output path index = ap units (sym (v.rolls-Output path index)) ∙ fold-roll-Value _ _ _

pub units-nothing : units v.Nothing ≡ units_step Value-F.Nothing
unfolding units
units-nothing = ap units (sym v.rolls-Nothing) ∙ fold-roll-Value _ _ _

pub levels-int : (n : ℤ) → levels (v.Int n) ≡ levels_step (Value-F.Int n)
unfolding levels
levels-int n = ap levels (sym (v.rolls-Int n)) ∙ fold-roll-Value _ _ _

pub levels-text : (t : List ℕ) → levels (v.Text t) ≡ levels_step (Value-F.Text t)
unfolding levels
levels-text t = ap levels (sym (v.rolls-Text t)) ∙ fold-roll-Value _ _ _

pub levels-list : (vs : List Value) → levels (v.List vs) ≡ levels_step (Value-F.List (map levels vs))
unfolding levels
levels-list vs = ap levels (sym (v.rolls-List vs)) ∙ fold-roll-Value _ _ _

pub levels-file : (name content : List ℕ) → levels (v.File name content) ≡ levels_step (Value-F.File name content)
unfolding levels
levels-file name content = ap levels (sym (v.rolls-File name content)) ∙ fold-roll-Value _ _ _

pub levels-future : (path : List ℕ) (outputs : ℕ) → levels (v.Future path outputs) ≡ levels_step (Value-F.Future path outputs)
unfolding levels
levels-future path outputs = ap levels (sym (v.rolls-Future path outputs)) ∙ fold-roll-Value _ _ _

pub levels-output : (path : List ℕ) (index : ℕ) → levels (v.Output path index) ≡ levels_step (Value-F.Output path index)
unfolding levels
levels-output path index = ap levels (sym (v.rolls-Output path index)) ∙ fold-roll-Value _ _ _

pub levels-nothing : levels v.Nothing ≡ levels_step Value-F.Nothing
unfolding levels
levels-nothing = ap levels (sym v.rolls-Nothing) ∙ fold-roll-Value _ _ _

pub is_plain-int : (n : ℤ) → is_plain (v.Int n) ≡ plain_step (Value-F.Int n)
unfolding is_plain
is_plain-int n = ap is_plain (sym (v.rolls-Int n)) ∙ fold-roll-Value _ _ _

pub is_plain-text : (t : List ℕ) → is_plain (v.Text t) ≡ plain_step (Value-F.Text t)
unfolding is_plain
is_plain-text t = ap is_plain (sym (v.rolls-Text t)) ∙ fold-roll-Value _ _ _

pub is_plain-list : (vs : List Value) → is_plain (v.List vs) ≡ plain_step (Value-F.List (map is_plain vs))
unfolding is_plain
is_plain-list vs = ap is_plain (sym (v.rolls-List vs)) ∙ fold-roll-Value _ _ _

pub is_plain-file : (name content : List ℕ) → is_plain (v.File name content) ≡ plain_step (Value-F.File name content)
unfolding is_plain
is_plain-file name content = ap is_plain (sym (v.rolls-File name content)) ∙ fold-roll-Value _ _ _

pub is_plain-future : (path : List ℕ) (outputs : ℕ) → is_plain (v.Future path outputs) ≡ plain_step (Value-F.Future path outputs)
unfolding is_plain
is_plain-future path outputs = ap is_plain (sym (v.rolls-Future path outputs)) ∙ fold-roll-Value _ _ _

pub is_plain-output : (path : List ℕ) (index : ℕ) → is_plain (v.Output path index) ≡ plain_step (Value-F.Output path index)
unfolding is_plain
is_plain-output path index = ap is_plain (sym (v.rolls-Output path index)) ∙ fold-roll-Value _ _ _

pub is_plain-nothing : is_plain v.Nothing ≡ plain_step Value-F.Nothing
unfolding is_plain
is_plain-nothing = ap is_plain (sym v.rolls-Nothing) ∙ fold-roll-Value _ _ _

pub shown-int : (n : ℤ) → shown (v.Int n) ≡ shown_step (Value-F.Int n)
unfolding shown
shown-int n = ap shown (sym (v.rolls-Int n)) ∙ fold-roll-Value _ _ _

pub shown-text : (t : List ℕ) → shown (v.Text t) ≡ shown_step (Value-F.Text t)
unfolding shown
shown-text t = ap shown (sym (v.rolls-Text t)) ∙ fold-roll-Value _ _ _

pub shown-list : (vs : List Value) → shown (v.List vs) ≡ shown_step (Value-F.List (map shown vs))
unfolding shown
shown-list vs = ap shown (sym (v.rolls-List vs)) ∙ fold-roll-Value _ _ _

pub shown-file : (name content : List ℕ) → shown (v.File name content) ≡ shown_step (Value-F.File name content)
unfolding shown
shown-file name content = ap shown (sym (v.rolls-File name content)) ∙ fold-roll-Value _ _ _

pub shown-future : (path : List ℕ) (outputs : ℕ) → shown (v.Future path outputs) ≡ shown_step (Value-F.Future path outputs)
unfolding shown
shown-future path outputs = ap shown (sym (v.rolls-Future path outputs)) ∙ fold-roll-Value _ _ _

pub shown-output : (path : List ℕ) (index : ℕ) → shown (v.Output path index) ≡ shown_step (Value-F.Output path index)
unfolding shown
shown-output path index = ap shown (sym (v.rolls-Output path index)) ∙ fold-roll-Value _ _ _

pub shown-nothing : shown v.Nothing ≡ shown_step Value-F.Nothing
unfolding shown
shown-nothing = ap shown (sym v.rolls-Nothing) ∙ fold-roll-Value _ _ _

pub ruleset value_folds = (out-int, out-text, out-list, out-file, out-future, out-output, out-nothing, units-int, units-text, units-list, units-file, units-future, units-output, units-nothing, levels-int, levels-text, levels-list, levels-file, levels-future, levels-output, levels-nothing, is_plain-int, is_plain-text, is_plain-list, is_plain-file, is_plain-future, is_plain-output, is_plain-nothing, shown-int, shown-text, shown-list, shown-file, shown-future, shown-output, shown-nothing)
