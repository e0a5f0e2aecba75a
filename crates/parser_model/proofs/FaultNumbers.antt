-- No two faults have one number.
use Rattle.std.proofs.Common.{◌≡◌, ℕ, if◌then◌else◌, nat_eq, refl, ap, sym, ◌∙◌}
use Rattle.script_tree.specs.declared.fault.SyntaxFault.{SyntaxFault}
use Rattle.script_tree.specs.declared.fault.SyntaxFault.TheVariants.{WrongByte, WrongToken, WrongNumber, Unexpected, TooDeep, TooLong}
use Rattle.script_tree.specs.Faults.{syntax_number}

abbrev numbered : ℕ → SyntaxFault
numbered n =
    if nat_eq n 1 then WrongByte else (if nat_eq n 2 then WrongToken else (if nat_eq n 3 then WrongNumber else (if nat_eq n 4 then Unexpected else (if nat_eq n 5 then TooDeep else TooLong))))

numbered_back : (a : SyntaxFault) → numbered (syntax_number a) ≡ a
numbered_back WrongByte = refl
numbered_back WrongToken = refl
numbered_back WrongNumber = refl
numbered_back Unexpected = refl
numbered_back TooDeep = refl
numbered_back TooLong = refl

pub same_number : (a b : SyntaxFault) → syntax_number a ≡ syntax_number b → a ≡ b
same_number a b e = sym (numbered_back a) ∙ (ap numbered e ∙ numbered_back b)
