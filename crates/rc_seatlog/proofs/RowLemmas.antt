-- Loops that read parts in a row: what one more part leaves to read.
use Rattle.std.proofs.Common.{◌≡◌, ℕ, suc, ◌+◌, ◌-◌, ◌<◌, ◌≤◌, Bool, true, false, List, [], ◌∷◌, ◌++◌, length, map, ℤ, codes, Option, Some, None, Vec, Global, refl, sym, ap, ◌∙◌, subst, append_assoc, arith}
use Rattle.rc_base.specs.Clamp.{largest_number}
use Rattle.rc_play_spec.specs.Shape.{Shape}
use Rattle.rc_play_spec.specs.Fields.{◌>>=◌, number, integer}
use Rattle.rc_play_spec.specs.View.{Sight, with_faces}
use Rattle.rc_log_spec.specs.Shown.{sight_from}
use Rattle.rc_log_spec.specs.Lines.{sight_in}
use Rattle.rc_log_spec.proofs.LineLemmas.{sight_again}
use Rattle.rc_text.specs.Finds.{Finds}
use Rattle.rc_log_spec.specs.Fields.{counts_in, integers_in, card_in, cards_in}

-- faces that are known
abbrev pub known : List ℕ → List (Option ℕ)
known faces = map (λ n. Some n) faces

-- what was found goes in front of what is found later
abbrev pub behind_found : {A : Type 0} → List A → Option (List A) → Option (List A)
behind_found found o = o >>= λ more. Some (found ++ more)

moved : {A : Type 0} (found : List A) (x : A) (o : Option (List A)) → behind_found found (o >>= λ xs. Some (x ∷ xs)) ≡ behind_found (found ++ x ∷ []) o
moved found x None = refl
moved found x (Some xs) = ap (λ all. Some all) (sym (append_assoc found (x ∷ []) xs))

count_step : (k k' most : ℕ) (rest : List ℕ) (n : ℕ) (later : List ℕ) (found : List ℕ) → k ≡ suc k' → number (codes " ") most rest ≡ Some (n, later) →
    behind_found found (counts_in k most rest) ≡ behind_found (found ++ n ∷ []) (counts_in k' most later)
count_step k k' most rest n later found e is =
    ap (λ k. behind_found found (counts_in k most rest)) e ∙ ap (λ o. behind_found found (o >>= λ n. counts_in k' most n.1 >>= λ ns. Some (n.0 ∷ ns))) is
    ∙ moved found n (counts_in k' most later)

pub counts_more : (count i most : ℕ) (rest : List ℕ) (n : ℕ) (later : List ℕ) (found : List ℕ) → i < count → number (codes " ") most rest ≡ Some (n, later) →
    behind_found (found ++ n ∷ []) (counts_in (count - (i + 1)) most later) ≡ behind_found found (counts_in (count - i) most rest)
counts_more count i most rest n later found less is = sym (count_step (count - i) (count - (i + 1)) most rest n later found (omega (arith, less)) is)

counts_none : (k k' most : ℕ) (rest found : List ℕ) → k ≡ suc k' → number (codes " ") most rest ≡ None → behind_found found (counts_in k most rest) ≡ None
counts_none k k' most rest found e is =
    ap (λ k. behind_found found (counts_in k most rest)) e ∙ ap (λ o. behind_found found (o >>= λ n. counts_in k' most n.1 >>= λ ns. Some (n.0 ∷ ns))) is

pub counts_stop : (count i most : ℕ) (rest found : List ℕ) → i < count → number (codes " ") most rest ≡ None → behind_found found (counts_in (count - i) most rest) ≡ None
counts_stop count i most rest found less is = counts_none (count - i) (count - (i + 1)) most rest found (omega (arith, less)) is

integer_step : (k k' : ℕ) (rest : List ℕ) (n : ℤ) (later : List ℕ) (found : List ℤ) → k ≡ suc k' → integer (codes " ") largest_number rest ≡ Some (n, later) →
    behind_found found (integers_in k rest) ≡ behind_found (found ++ n ∷ []) (integers_in k' later)
integer_step k k' rest n later found e is =
    ap (λ k. behind_found found (integers_in k rest)) e ∙ ap (λ o. behind_found found (o >>= λ n. integers_in k' n.1 >>= λ ns. Some (n.0 ∷ ns))) is
    ∙ moved found n (integers_in k' later)

pub integers_more : (count i : ℕ) (rest : List ℕ) (n : ℤ) (later : List ℕ) (found : List ℤ) → i < count → integer (codes " ") largest_number rest ≡ Some (n, later) →
    behind_found (found ++ n ∷ []) (integers_in (count - (i + 1)) later) ≡ behind_found found (integers_in (count - i) rest)
integers_more count i rest n later found less is = sym (integer_step (count - i) (count - (i + 1)) rest n later found (omega (arith, less)) is)

integers_none : (k k' : ℕ) (rest : List ℕ) (found : List ℤ) → k ≡ suc k' → integer (codes " ") largest_number rest ≡ None → behind_found found (integers_in k rest) ≡ None
integers_none k k' rest found e is =
    ap (λ k. behind_found found (integers_in k rest)) e ∙ ap (λ o. behind_found found (o >>= λ n. integers_in k' n.1 >>= λ ns. Some (n.0 ∷ ns))) is

pub integers_stop : (count i : ℕ) (rest : List ℕ) (found : List ℤ) → i < count → integer (codes " ") largest_number rest ≡ None → behind_found found (integers_in (count - i) rest) ≡ None
integers_stop count i rest found less is = integers_none (count - i) (count - (i + 1)) rest found (omega (arith, less)) is

-- cards: as many may follow as there were bytes, less those that were found
card_step : (shape : Shape) (seen : Bool) (k k' : ℕ) (rest : List ℕ) (card : Option ℕ) (later : List ℕ) (found : List (Option ℕ)) → k ≡ suc k' → 0 < length rest →
    card_in shape seen rest ≡ Some (card, later) → behind_found found (cards_in shape seen k rest) ≡ behind_found (found ++ card ∷ []) (cards_in shape seen k' later)
card_step shape seen k k' [] card later found e some is = absurd (omega arith)
card_step shape seen k k' (b ∷ bytes) card later found e some is =
    ap (λ k. behind_found found (cards_in shape seen k (b ∷ bytes))) e
    ∙ ap (λ o. behind_found found (o >>= λ card. cards_in shape seen k' card.1 >>= λ cards. Some (card.0 ∷ cards))) is
    ∙ moved found card (cards_in shape seen k' later)

pub cards_more : (shape : Shape) (seen : Bool) (most : ℕ) (rest : List ℕ) (card : Option ℕ) (later : List ℕ) (found found' : List (Option ℕ)) → 0 < length rest →
    length rest + length found ≤ most → card_in shape seen rest ≡ Some (card, later) → found' ≡ found ++ card ∷ [] → length found' ≡ length found + 1 →
    behind_found found' (cards_in shape seen (most - length found') later) ≡ behind_found found (cards_in shape seen (most - length found) rest)
cards_more shape seen most rest card later found found' some fits is e long =
    ap (λ xs. behind_found xs (cards_in shape seen (most - length found') later)) e
    ∙ sym (card_step shape seen (most - length found) (most - length found') rest card later found (omega (arith, some, fits, long)) some is)

cards_none : (shape : Shape) (seen : Bool) (k k' : ℕ) (rest : List ℕ) (found : List (Option ℕ)) → k ≡ suc k' → 0 < length rest →
    card_in shape seen rest ≡ None → behind_found found (cards_in shape seen k rest) ≡ None
cards_none shape seen k k' [] found e some is = absurd (omega arith)
cards_none shape seen k k' (b ∷ bytes) found e some is =
    ap (λ k. behind_found found (cards_in shape seen k (b ∷ bytes))) e
    ∙ ap (λ o. behind_found found (o >>= λ card. cards_in shape seen k' card.1 >>= λ cards. Some (card.0 ∷ cards))) is

pub cards_stop : (shape : Shape) (seen : Bool) (most : ℕ) (rest : List ℕ) (found : List (Option ℕ)) → 0 < length rest → length rest + length found ≤ most →
    card_in shape seen rest ≡ None → behind_found found (cards_in shape seen (most - length found) rest) ≡ None
cards_stop shape seen most rest found some fits is =
    cards_none shape seen (most - length found) (most - length found - 1) rest found (omega (arith, some, fits)) some is

-- faces up to the end are what is seen of a location that the seat sees
pub faces_sight : (shape : Shape) (seen : Bool) (bytes : List ℕ) (o : Option (Vec ℕ Global)) (v : Vec ℕ Global) → seen ≡ true → o ≡ Some v →
    Finds (λ v. known v.items) o (cards_in shape true (length bytes) bytes) → sight_in shape seen bytes ≡ Some (with_faces v.items)
faces_sight shape true bytes o v e same is =
    ap (λ o. o >>= λ cards. Some (sight_from true cards)) (subst (λ o. Finds (λ (v : Vec ℕ Global). known v.items) o (cards_in shape true (length bytes) bytes)) same is)
    ∙ ap (λ (s : Sight). Some s) (sight_again true (with_faces v.items) tt)
faces_sight shape false bytes o v e same is = absurd cc
