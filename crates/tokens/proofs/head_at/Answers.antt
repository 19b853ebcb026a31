use Rattle.std.proofs.Common.{◌≡◌, sym, ap, ◌∙◌, arith, Err, None}
use Rattle.tokens.proofs.Laws as laws
use Rattle.tokens.specs.Tokens.{Plain, Cipher, head_of}
use Rattle.tokens.proofs.head_at.Goals as goal
use Rattle.tokens.proofs.head_at.Goals.{In-Some-Cipher}

-- the row is a cipher call's
cipher : (c : In-Some-Cipher) → c.call_by.result ≡ Cipher c.in-Some-Cipher.kind c.in-Some-Cipher.arguments
cipher c = laws.row_here _ _ _ c.in-Some-Cipher.is c.in-Some-Cipher.field-0-is

pub overflow_add-q : goal.overflow_add-q
overflow_add-q c = let i = laws.letters_within _ _ _ _ c.letters_at-l.ensures in omega arith

pub suite_at-requires : goal.suite_at-requires
suite_at-requires c = let i = laws.cipher_small _ _ _ _ _ _ c.letters_at-l.ensures (sym (cipher (goal.at.suite_at-requires c).In-Some-Cipher) ∙ c.call_by.ensures) in omega arith

pub returns-in-Some-Plain : goal.returns-in-Some-Plain
unfolding head_of
returns-in-Some-Plain c =
    laws.head_of_lem _ _ _ _ (Plain c.in-Some-Plain.kind c.in-Some-Plain.arguments) c.letters_at-l.ensures (sym (laws.row_here _ _ _ c.in-Some-Plain.is c.in-Some-Plain.field-0-is) ∙ c.call_by.ensures)

pub returns-in-Some-Cipher : goal.returns-in-Some-Cipher
unfolding head_of
returns-in-Some-Cipher c =
    c.suite_at.ensures
    ∙ laws.head_of_lem _ _ _ _ (Cipher c.in-Some-Cipher.kind c.in-Some-Cipher.arguments) c.letters_at-l.ensures (sym (cipher (goal.at.returns-in-Some-Cipher c).In-Some-Cipher) ∙ c.call_by.ensures)

pub returns-in-None : goal.returns-in-None
unfolding head_of
returns-in-None c = ap Err c.syntax.ensures ∙ laws.head_of_lem _ _ _ _ None c.letters_at-l.ensures (sym c.in-None.is ∙ c.call_by.ensures)
