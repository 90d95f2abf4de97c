-- A word read by hand is the word by its spelling, with the value as a number.
use Rattle.std.proofs.Common.{◌≡◌, ◌∙◌, Bool, true, false, refl, sym, ap, drop, subst, List, codes}
use Rattle.std.specs.Prelude.{if◌then◌else◌, nat_eq}
use Rattle.std.specs.List.{starts_with}
use Rattle.std.specs.Str.{bytes_eq}
use Rattle.ppd_ast.specs.Digits.{number_in}
use Rattle.ppd_top_requests.proofs.Clap.Kinds.{clap_spelled}
use Rattle.ppd_top_requests.proofs.Clap.Lookups.{same-equal}
use Rattle.ppd_top_requests.proofs.Clap.Spelled.{spelled_alike}
use Rattle.ppd_top_requests.specs.Commands.{longs_of}
use Rattle.ppd_top_requests.specs.declared.commands.CommandName.TheVariants.{Flow}
use Rattle.ppd_top_requests.specs.Numbers.{Ends, Name, Other, Sets, Waits, Word, budget, choice_of, leaf, loops, spelled_word}
use Rattle.ppd_top_requests.specs.Spelling.{HaveNoEquals, is_dashed, spelled}
use Rattle.ppd_top_requests.specs.GivenWords.{Kind, Text, ends, name, other, sets, waits}

abbrev pub flow_longs : List Text
flow_longs = longs_of Flow

abbrev pub word_of : Kind → Word
word_of ends = Ends
word_of (waits id) = Waits (choice_of id)
word_of (sets id value) = Sets (choice_of id) (number_in value)
word_of other = Other
word_of name = Name

pub flow_have_no_equals : HaveNoEquals flow_longs
flow_have_no_equals = (refl, (refl, (refl, tt)))

push : (a b c d e f : Bool) (x y z : Text) → (if a then Ends else if b then Waits budget else if c then Sets budget (number_in x) else if d then Sets leaf (number_in y) else if e then Sets loops (number_in z) else if f then Other else Name)
    ≡ word_of (if a then ends else if b then waits (codes "budget") else if c then sets (codes "budget") x else if d then sets (codes "leaf") y else if e then sets (codes "loops") z else if f then other else name)
push true b c d e f x y z = refl
push false true c d e f x y z = refl
push false false true d e f x y z = refl
push false false false true e f x y z = refl
push false false false false true f x y z = refl
push false false false false false true x y z = refl
push false false false false false false x y z = refl

pub spelled_is : (w : Text) → spelled_word w ≡ word_of (clap_spelled flow_longs w)
spelled_is w = by_parts (bytes_eq w (codes "--leaf")) refl (bytes_eq w (codes "--loops")) refl ∙ sym (ap word_of (spelled_alike flow_longs w flow_have_no_equals))
  where
    at : (v : Text) → w ≡ v → spelled_word v ≡ word_of (spelled flow_longs v) → spelled_word w ≡ word_of (spelled flow_longs w)
    at v is h = subst (λ (x : Text). spelled_word x ≡ word_of (spelled flow_longs x)) (sym is) h

    by_parts : (s : Bool) → bytes_eq w (codes "--leaf") ≡ s → (t : Bool) → bytes_eq w (codes "--loops") ≡ t → spelled_word w ≡ word_of (spelled flow_longs w)
    by_parts true e t f = at (codes "--leaf") (same-equal w (codes "--leaf") e) refl
    by_parts false e true f = at (codes "--loops") (same-equal w (codes "--loops") f) refl
    by_parts false e false f = rw (e, f) (push (bytes_eq w (codes "--")) (bytes_eq w (codes "--budget")) (starts_with nat_eq w (codes "--budget=")) (starts_with nat_eq w (codes "--leaf=")) (starts_with nat_eq w (codes "--loops=")) (is_dashed w) (drop 9 w) (drop 7 w) (drop 8 w))
