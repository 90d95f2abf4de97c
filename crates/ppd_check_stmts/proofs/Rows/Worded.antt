-- Statements without statements inside them, by their first child.
use Rattle.std.proofs.Common.{◌≡◌, refl, sym, ap, ◌∙◌, List, None, Option, Some, pos, if◌then◌else◌}
use Rattle.ppd_parse.specs.declared.token.Kind.{Kind}
use Rattle.ppd_parse.specs.declared.token.Kind.TheVariants as K
use Rattle.ppd_parse.specs.declared.symbol.Rule.{Rule}
use Rattle.ppd_parse.specs.declared.symbol.Rule.TheVariants as R
use Rattle.ppd_check_names.specs.Nodes.{SaysBy}
use Rattle.ppd_check_stmts.specs.Plain.{plain_word, plain_statement}
use Rattle.ppd_check_names.specs.Reading.{Phrase, as_value, kind, local_item, name_at, number_at, phrase, returned, same_kind, statement}
use Rattle.ppd_check_names.specs.Syntax.{Name, Simple, Value, array, block, fresh, number, plain, stop}
use Rattle.ppd_check_names.specs.declared.nodes.Number.{Number}

-- no word of a statement without statements inside it
pub word_other : (k : Kind) (ps : List Phrase) → (k ≡ K.ReturnWord → ⊥) → (k ≡ K.TakeWord → ⊥) → (k ≡ K.GiveWord → ⊥) → (k ≡ K.SendWord → ⊥) → (k ≡ K.PrintWord → ⊥) → (k ≡ K.AssertWord → ⊥)
    → plain_word k ps ≡ block stop stop
word_other K.ReturnWord ps a b c d e f = absurd (a refl)
word_other K.TakeWord ps a b c d e f = absurd (b refl)
word_other K.GiveWord ps a b c d e f = absurd (c refl)
word_other K.SendWord ps a b c d e f = absurd (d refl)
word_other K.PrintWord ps a b c d e f = absurd (e refl)
word_other K.AssertWord ps a b c d e f = absurd (f refl)
word_other _ ps a b c d e f = refl

-- no place, call or change
pub statement_other : (r : Rule) (qs : List Phrase) (p : Phrase) (ps : List Phrase) → (r ≡ R.Place → ⊥) → (r ≡ R.Call → ⊥) → (r ≡ R.Change → ⊥) → (r ≡ R.Litem → ⊥) → SaysBy r qs p
    → plain_statement p ps ≡ stop
statement_other R.Place qs p ps a b c d e = absurd (a refl)
statement_other R.Call qs p ps a b c d e = absurd (b refl)
statement_other R.Change qs p ps a b c d e = absurd (c refl)
statement_other R.Litem qs p ps a b c d e = absurd (d refl)
statement_other R.Leaf qs p ps a b c d e = ap (λ q. plain_statement q ps) e.1
statement_other r qs p ps a b c d e = ap (λ q. plain_statement q ps) e

-- the statement of a node whose first child is no token and no block
pub named_statement : (r : Rule) (qs : List Phrase) (p : Phrase) (ps : List Phrase) → (r ≡ R.Leaf → ⊥) → (r ≡ R.Block → ⊥) → SaysBy r qs p → statement p ps ≡ plain_statement p ps
named_statement R.Leaf qs p ps a b e = absurd (a refl)
named_statement R.Block qs p ps a b e = absurd (b refl)
named_statement r qs p ps a b e = ap (λ q. statement q ps) e ∙ sym (ap (λ q. plain_statement q ps) e)

-- What a declaration of a local variable says, by the token behind its name.

abbrev said_after : List Phrase → Kind → Simple
said_after ps j =
    if same_kind K.LeftBracket j then array (name_at ps 0) (number_at ps 2)
    else if same_kind K.AssignMark j then fresh (name_at ps 0) (as_value (phrase ps 2))
    else fresh (name_at ps 0) (plain (number (pos 0)))

pub item_array : (x : Name) (n : Number) (ps : List Phrase) → K.LeftBracket ≡ kind (phrase ps 1) → x ≡ name_at ps 0 → n ≡ number_at ps 2 → array x n ≡ local_item ps
item_array x n ps k a b = ap (λ y. array y n) a ∙ ap (array (name_at ps 0)) b ∙ ap (said_after ps) k

pub item_begun : (x : Name) (v : Value) (ps : List Phrase) → K.AssignMark ≡ kind (phrase ps 1) → x ≡ name_at ps 0 → v ≡ as_value (phrase ps 2) → fresh x v ≡ local_item ps
item_begun x v ps k a b = ap (λ y. fresh y v) a ∙ ap (fresh (name_at ps 0)) b ∙ ap (said_after ps) k

pub item_fresh : (k : Kind) (x : Name) (ps : List Phrase) → (k ≡ K.LeftBracket → ⊥) → (k ≡ K.AssignMark → ⊥) → k ≡ kind (phrase ps 1) → x ≡ name_at ps 0 → fresh x (plain (number (pos 0))) ≡ local_item ps
item_fresh k x ps m n e a = ap (λ y. fresh y (plain (number (pos 0)))) a ∙ go k m n ∙ ap (said_after ps) e
  where
    go : (j : Kind) → (j ≡ K.LeftBracket → ⊥) → (j ≡ K.AssignMark → ⊥) → fresh (name_at ps 0) (plain (number (pos 0))) ≡ said_after ps j
    go K.LeftBracket m n = absurd (m refl)
    go K.AssignMark m n = absurd (n refl)
    go j m n = refl

-- What a `return` gives, by the token behind the word.

abbrev given : Phrase → Kind → Option Value
given p j = if same_kind K.Semicolon j then None else Some (as_value p)

pub returned_none : (p : Phrase) → K.Semicolon ≡ kind p → None ≡ returned p
returned_none p e = ap (given p) e

pub returned_some : (k : Kind) (p : Phrase) → (k ≡ K.Semicolon → ⊥) → k ≡ kind p → Some (as_value p) ≡ returned p
returned_some k p m e = go k m ∙ ap (given p) e
  where
    go : (j : Kind) → (j ≡ K.Semicolon → ⊥) → Some (as_value p) ≡ given p j
    go K.Semicolon m = absurd (m refl)
    go j m = refl
