-- A row that is printed in several steps: a space, a head behind a parenthesis that opens, parts, and a parenthesis that closes.
use Rattle.std.proofs.Common.{◌≡◌, ℕ, List, [], ◌∷◌, ◌++◌, Result, OnOk, refl, sym, ap, ◌∙◌, append_assoc, append-nil}
use Rattle.rc_base.specs.Tree.{Tree, printed, printed_behind}
use Rattle.rc_deck.proofs.EachLemmas.{on_ok}
use Rattle.rc_sheet_spec.specs.Printing.{packed, atom, row}
use Rattle.rc_print.proofs.FormLemmas.{printed_behind-append}

-- the head and these parts are printed
pub record Begins (old new head : List ℕ) (parts : List Tree) : Type 0 where
  pub is : new ≡ old ++ 32 ∷ 40 ∷ (head ++ printed_behind (packed parts))

pub opened : {old new head : List ℕ} → new ≡ old ++ 32 ∷ 40 ∷ head → Begins old new head []
opened {old = old} {head = head} is = record { is = is ∙ ap (λ bytes. old ++ 32 ∷ 40 ∷ bytes) (sym (append-nil head)) }

pub with_parts : {old new newer head : List ℕ} {parts : List Tree} (others : List Tree) → Begins old new head parts
    → newer ≡ new ++ printed_behind (packed others) → Begins old newer head (parts ++ others)
with_parts {old = old} {head = head} {parts = parts} others begins is =
    let bytes : List ℕ = printed_behind (packed parts) in
    let more : List ℕ = printed_behind (packed others) in
    let joined : (head ++ bytes) ++ more ≡ head ++ printed_behind (packed (parts ++ others)) =
    append_assoc head bytes more ∙ ap (λ all. head ++ all) (sym (printed_behind-append parts others)) in
    record {
      is =
          is ∙ ap (λ text. text ++ more) begins.is ∙ append_assoc old (32 ∷ 40 ∷ (head ++ bytes)) more
          ∙ ap (λ all. old ++ 32 ∷ 40 ∷ all) joined;
    }

pub with_part : {old new newer head : List ℕ} {parts : List Tree} (part : Tree) → Begins old new head parts
    → newer ≡ new ++ 32 ∷ printed part → Begins old newer head (parts ++ part ∷ [])
with_part {new = new} part begins is =
    with_parts (part ∷ []) begins (is ∙ ap (λ bytes. new ++ 32 ∷ bytes) (sym (append-nil (printed part))))

-- and then the end
pub ended : {old new newer head : List ℕ} {parts : List Tree} → Begins old new head parts → newer ≡ new ++ 41 ∷ []
    → newer ≡ old ++ 32 ∷ printed (row (atom head ∷ parts))
ended {old = old} {head = head} {parts = parts} begins is =
    is ∙ ap (λ text. text ++ 41 ∷ []) begins.is
    ∙ append_assoc old (32 ∷ 40 ∷ (head ++ printed_behind (packed parts))) (41 ∷ [])

-- where nothing fails
pub closed : {A E : Type 0} {old new head : List ℕ} {parts : List Tree} (newer : List ℕ) (result : Result A E) (form : Tree)
    → Begins old new head parts → OnOk result (newer ≡ new ++ 41 ∷ []) → form ≡ row (atom head ∷ parts)
    → OnOk result (newer ≡ old ++ 32 ∷ printed form)
closed {old = old} newer result form begins ends same =
    on_ok result ends (λ is. ended begins is ∙ ap (λ tree. old ++ 32 ∷ printed tree) (sym same))

-- what is printed, as the form of something else
pub printed_as : {A E : Type 0} (old newer : List ℕ) (result : Result A E) (form other : Tree)
    → OnOk result (newer ≡ old ++ 32 ∷ printed form) → other ≡ form → OnOk result (newer ≡ old ++ 32 ∷ printed other)
printed_as old newer result form other ends same =
    on_ok result ends (λ is. is ∙ ap (λ tree. old ++ 32 ∷ printed tree) (sym same))

-- a head and two parts, of which the last one is printed with the end
pub both : {A E : Type 0} {new : List ℕ} (old head : List ℕ) (first second : Tree) (newer : List ℕ) (result : Result A E)
    (form : Tree) → new ≡ (old ++ 32 ∷ 40 ∷ head) ++ 32 ∷ printed first
    → OnOk result (newer ≡ (new ++ 32 ∷ printed second) ++ 41 ∷ [])
    → form ≡ row (atom head ∷ first ∷ second ∷ []) → OnOk result (newer ≡ old ++ 32 ∷ printed form)
both {new = new} old head first second newer result form is ends same =
    let begun : Begins old (old ++ 32 ∷ 40 ∷ head) head [] = opened refl in
    let one : Begins old new head (first ∷ []) = with_part first begun is in
    let two : Begins old (new ++ 32 ∷ printed second) head (first ∷ second ∷ []) = with_part second one refl in
    closed newer result form two ends same

-- and three parts
pub three : {A E : Type 0} {new : List ℕ} (old head : List ℕ) (first second third : Tree) (newer : List ℕ) (result : Result A E)
    (form : Tree) → new ≡ ((old ++ 32 ∷ 40 ∷ head) ++ 32 ∷ printed first) ++ 32 ∷ printed second
    → OnOk result (newer ≡ (new ++ 32 ∷ printed third) ++ 41 ∷ [])
    → form ≡ row (atom head ∷ first ∷ second ∷ third ∷ []) → OnOk result (newer ≡ old ++ 32 ∷ printed form)
three {new = new} old head first second third newer result form is ends same =
    let begun : Begins old (old ++ 32 ∷ 40 ∷ head) head [] = opened refl in
    let one : Begins old ((old ++ 32 ∷ 40 ∷ head) ++ 32 ∷ printed first) head (first ∷ []) = with_part first begun refl in
    let two : Begins old new head (first ∷ second ∷ []) = with_part second one is in
    let all : Begins old (new ++ 32 ∷ printed third) head (first ∷ second ∷ third ∷ []) = with_part third two refl in
    closed newer result form all ends same
