-- Mentions of locations, or of numbers: the first of each name, and how many there are of all owners.
use Rattle.std.proofs.Common.{◌≡◌, ℕ, ◌+◌, min, Bool, true, false, cond, ◌||◌, List, [], ◌∷◌, ◌++◌, Option, Some, None, refl, sym, ap, ◌∙◌, arith}
use Rattle.std.specs.List.{fold, sum_by}
use Rattle.std.specs.Option.{option_or, is_some}
use Rattle.std.specs.Str.{bytes_eq}
use Rattle.std.proofs.lemmas.List.Folds.{find-append}
use Rattle.std.proofs.lemmas.Slice.Eq.{bytes_eq-Decides}
use Rattle.rc_check.specs.SecondNames.{is_named, first_mention, firsts_from, OwnedMention}
use Rattle.rc_check.specs.Summary.{Whole, Owned, nothing_owned, is_mentioned, owners_of, with_mention, counted}
use Rattle.rc_check.proofs.Totals.{counted_more}

-- one more mention
abbrev pub add_mention : Whole → ℕ → Owned → OwnedMention → Owned
add_mention whole most owned mention = with_mention whole most mention owned

-- THE FIRST MENTION OF A NAME

-- of two mentions the first
or-none : (found : Option OwnedMention) → found ≡ option_or found None
or-none None = refl
or-none (Some mention) = refl

or-assoc : (a b c : Option OwnedMention) → option_or (option_or a b) c ≡ option_or a (option_or b c)
or-assoc None b c = refl
or-assoc (Some mention) b c = refl

-- one that is found is the first of more
or-found : (found other : Option OwnedMention) → is_some found ≡ true → found ≡ option_or found other
or-found None other is = absurd cc
or-found (Some mention) other is = refl

-- a mention of a name that is mentioned already
first_already : (name : List ℕ) (mention : OwnedMention) (firsts : List OwnedMention) (same : Bool) → bytes_eq name mention.name ≡ same
    → is_some (first_mention mention.name firsts) ≡ true
    → first_mention name firsts ≡ option_or (first_mention name firsts) (cond same (Some mention) None)
first_already name mention firsts true equal is =
    or-found (first_mention name firsts) (Some mention)
    (ap (λ n. is_some (first_mention n firsts)) ((bytes_eq-Decides name mention.name).0 equal) ∙ is)
first_already name mention firsts false equal is = or-none (first_mention name firsts)

-- the mentions and one more, with its owners
abbrev taken : Whole → ℕ → OwnedMention → Owned → Owned
taken whole most mention owned =
    record { firsts = owned.firsts ++ mention ∷ []; total = counted most owned.total (owners_of whole mention) }

-- the first mention of a name among those that are kept and one more
first_choice : (whole : Whole) (most : ℕ) (name : List ℕ) (mention : OwnedMention) (owned : Owned) (b : Bool)
    → is_mentioned mention owned ≡ b
    → first_mention name (cond b owned (taken whole most mention owned)).firsts
    ≡ option_or (first_mention name owned.firsts) (first_mention name (mention ∷ []))
first_choice whole most name mention owned true is =
    first_already name mention owned.firsts (bytes_eq name mention.name) refl is
first_choice whole most name mention owned false is =
    find-append (λ other. bytes_eq name other.name) owned.firsts (mention ∷ [])

-- the first mention of a name among those that are kept is the first of all
pub first_fold : (whole : Whole) (most : ℕ) (name : List ℕ) (owned : Owned) (mentions : List OwnedMention)
    → first_mention name (fold (add_mention whole most) owned mentions).firsts
    ≡ option_or (first_mention name owned.firsts) (first_mention name mentions)
first_fold whole most name owned [] = or-none (first_mention name owned.firsts)
first_fold whole most name owned (mention ∷ mentions) =
    first_fold whole most name (with_mention whole most mention owned) mentions
    ∙ ap (λ found. option_or found (first_mention name mentions))
    (first_choice whole most name mention owned (is_mentioned mention owned) refl)
    ∙ or-assoc (first_mention name owned.firsts) (first_mention name (mention ∷ [])) (first_mention name mentions)
    ∙ ap (option_or (first_mention name owned.firsts))
    (sym (find-append (λ other. bytes_eq name other.name) (mention ∷ []) mentions))

-- HOW MANY THERE ARE

-- the mentions are of these names
abbrev HasNames : List OwnedMention → List (List ℕ) → Type 0
HasNames firsts seen = (name : List ℕ) → is_some (first_mention name firsts) ≡ is_named name seen

-- a name is found among some, or is that of one more
or-comm_named : (found : Option OwnedMention) (b named : Bool) (mention : OwnedMention) → is_some found ≡ named
    → is_some (option_or found (cond b (Some mention) None)) ≡ (b || named)
or-comm_named None true named mention is = refl
or-comm_named None false named mention is = is
or-comm_named (Some first) true named mention is = refl
or-comm_named (Some first) false named mention is = is

-- the same of one more
HasNames-more : (mention : OwnedMention) (firsts : List OwnedMention) (seen : List (List ℕ)) → HasNames firsts seen
    → HasNames (firsts ++ mention ∷ []) (mention.name ∷ seen)
HasNames-more mention firsts seen names name =
    ap is_some (find-append (λ other. bytes_eq name other.name) firsts (mention ∷ []))
    ∙ or-comm_named (first_mention name firsts) (bytes_eq name mention.name) (is_named name seen) mention (names name)

-- a sum from a number on
abbrev sum_from : (OwnedMention → ℕ) → ℕ → List OwnedMention → ℕ
sum_from f total mentions = fold (λ a mention. a + f mention) total mentions

-- as many are counted behind these, as far as one above the limit
abbrev CountsOwned : Whole → ℕ → List OwnedMention → Type 0
CountsOwned whole most mentions =
    (owned : Owned) (seen : List (List ℕ)) (total : ℕ) → HasNames owned.firsts seen → owned.total ≡ min total (most + 1)
    → (fold (add_mention whole most) owned mentions).total
    ≡ min (sum_from (owners_of whole) total (firsts_from seen mentions)) (most + 1)

counts_choice : (whole : Whole) (most : ℕ) (mention : OwnedMention) (mentions : List OwnedMention) (owned : Owned)
    (seen : List (List ℕ)) (total : ℕ)
    (a b : Bool) → HasNames owned.firsts seen → owned.total ≡ min total (most + 1) → a ≡ b → CountsOwned whole most mentions
    → (fold (add_mention whole most) (cond a owned (taken whole most mention owned)) mentions).total
    ≡ min (sum_from (owners_of whole) total
    (cond b (firsts_from seen mentions) (mention ∷ firsts_from (mention.name ∷ seen) mentions))) (most + 1)
counts_choice whole most mention mentions owned seen total true true names is equal counts = counts owned seen total names is
counts_choice whole most mention mentions owned seen total false false names is equal counts =
    counts (taken whole most mention owned) (mention.name ∷ seen) (total + owners_of whole mention)
    (HasNames-more mention owned.firsts seen names) (counted_more most owned.total total (owners_of whole mention) is)
counts_choice whole most mention mentions owned seen total true false names is equal counts = absurd cc
counts_choice whole most mention mentions owned seen total false true names is equal counts = absurd cc

-- so all are counted
counts_fold : (whole : Whole) (most : ℕ) (mentions : List OwnedMention) → CountsOwned whole most mentions
counts_fold whole most [] owned seen total names is = is
counts_fold whole most (mention ∷ mentions) owned seen total names is =
    counts_choice whole most mention mentions owned seen total (is_mentioned mention owned) (is_named mention.name seen) names is
    (names mention.name) (counts_fold whole most mentions)

-- how many there are of all mentions, as far as one above the limit
pub counts_owned : (whole : Whole) (most : ℕ) (mentions : List OwnedMention)
    → (fold (add_mention whole most) nothing_owned mentions).total
    ≡ min (sum_by (owners_of whole) (firsts_from [] mentions)) (most + 1)
counts_owned whole most mentions = counts_fold whole most mentions nothing_owned [] 0 (λ name. refl) (omega arith)

-- ONE MORE MENTION

-- a name stands among these names, or one of the mentions has it
same_found : (c named : Bool) (found : Option OwnedMention) (mention : OwnedMention)
    → ((c || named) || is_some found) ≡ (named || is_some (cond c (Some mention) found))
same_found true true found mention = refl
same_found true false found mention = refl
same_found false named found mention = refl

-- a name that stands among these names already
same_named : (c named : Bool) (found : Option OwnedMention) (mention : OwnedMention) → (c ≡ true → named ≡ true)
    → (named || is_some found) ≡ (named || is_some (cond c (Some mention) found))
same_named true true found mention is = refl
same_named true false found mention is = let absurd_is = is refl in absurd cc
same_named false named found mention is = refl

-- the last mention alone
last_choice : (f : OwnedMention → ℕ) (last : OwnedMention) (total : ℕ) (b : Bool)
    → sum_from f total (cond b [] (last ∷ [])) ≡ total + cond (b || false) 0 (f last)
last_choice f last total true = omega arith
last_choice f last total false = refl

-- behind these names, a mention more makes as many more, or none
abbrev AddsLast : (OwnedMention → ℕ) → OwnedMention → List OwnedMention → Type 0
AddsLast f last mentions =
    (total : ℕ) (seen : List (List ℕ)) → sum_from f total (firsts_from seen (mentions ++ last ∷ []))
    ≡ sum_from f total (firsts_from seen mentions)
    + cond (is_named last.name seen || is_some (first_mention last.name mentions)) 0 (f last)

adds_choice : (f : OwnedMention → ℕ) (last mention : OwnedMention) (mentions : List OwnedMention) (total : ℕ) (seen : List (List ℕ)) (b : Bool)
    → is_named mention.name seen ≡ b → AddsLast f last mentions
    → sum_from f total (cond b (firsts_from seen (mentions ++ last ∷ []))
    (mention ∷ firsts_from (mention.name ∷ seen) (mentions ++ last ∷ [])))
    ≡ sum_from f total (cond b (firsts_from seen mentions) (mention ∷ firsts_from (mention.name ∷ seen) mentions))
    + cond (is_named last.name seen || is_some (first_mention last.name (mention ∷ mentions))) 0 (f last)
adds_choice f last mention mentions total seen true is adds =
    adds total seen
    ∙ ap (λ b. sum_from f total (firsts_from seen mentions) + cond b 0 (f last))
    (same_named (bytes_eq last.name mention.name) (is_named last.name seen) (first_mention last.name mentions) mention
    (λ equal. ap (λ name. is_named name seen) ((bytes_eq-Decides last.name mention.name).0 equal) ∙ is))
adds_choice f last mention mentions total seen false is adds =
    adds (total + f mention) (mention.name ∷ seen)
    ∙ ap (λ b. sum_from f (total + f mention) (firsts_from (mention.name ∷ seen) mentions) + cond b 0 (f last))
    (same_found (bytes_eq last.name mention.name) (is_named last.name seen) (first_mention last.name mentions) mention)

-- so it does behind all
adds_fold : (f : OwnedMention → ℕ) (last : OwnedMention) (mentions : List OwnedMention) → AddsLast f last mentions
adds_fold f last [] total seen = last_choice f last total (is_named last.name seen)
adds_fold f last (mention ∷ mentions) total seen =
    adds_choice f last mention mentions total seen (is_named mention.name seen) refl (adds_fold f last mentions)

-- a mention more makes as many more as it has owners, or none where its name stood
pub adds_last : (f : OwnedMention → ℕ) (last : OwnedMention) (mentions : List OwnedMention)
    → sum_by f (firsts_from [] (mentions ++ last ∷ []))
    ≡ sum_by f (firsts_from [] mentions) + cond (is_some (first_mention last.name mentions)) 0 (f last)
adds_last f last mentions = adds_fold f last mentions 0 []
