-- All mentions of one name say the same of it.
use Rattle.std.proofs.Common.{◌≡◌, ℕ, Bool, true, false, not, ◌&&◌, cond, List, [], ◌∷◌, ◌++◌, ◌⊎◌, inl, inr, ⊎_elim, Option, Some, None, flat_map, bytes_eq, refl, sym, subst, ap, ◌∙◌}
use Rattle.std.proofs.lemmas.Bool.{and_parts, not-false}
use Rattle.std.proofs.lemmas.List.{append-nil, append_assoc}
use Rattle.std.proofs.lemmas.Grind.{flat_map-append}
use Rattle.std.proofs.lemmas.Slice.Eq.{bytes_eq-Decides}
use Rattle.rc_sheet_spec.specs.Sheet.{same_class}
use Rattle.rc_check.specs.SecondParts.{Part}
use Rattle.rc_check.specs.SecondNames.{first_mention, OwnedMention}
use Rattle.rc_check.specs.SecondFaults.{differs_from, is_other_mention, faults_of, faults_behind}
use Rattle.rc_sheet.proofs.Among.{Among, among_either}
use Rattle.rc_sheet.proofs.Shapes.{none_in_both}
use Rattle.rc_sheet.proofs.Faultless.{IsFaultless, faultless}
use Rattle.rc_sheet.proofs.ReadOff.Names.{class_same, classes_same}

-- each mention says what the first of its name does
abbrev pub Agree : List OwnedMention → Type 0
Agree mentions = (mention : OwnedMention) → Among mention mentions → is_other_mention mentions mention ≡ false

same_bytes_itself : (bytes : List ℕ) → bytes_eq bytes bytes ≡ true
same_bytes_itself bytes = (bytes_eq-Decides bytes bytes).1 refl

-- a mention says what it says
differs_not : (mention : OwnedMention) → differs_from mention (Some mention) ≡ false
differs_not mention =
    ap not (ap (λ b. b && same_class mention.class mention.class)
    (same_bytes_itself mention.kind) ∙ class_same mention.class)

-- the one, or else the last
abbrev or_last : Option OwnedMention → Option OwnedMention → Option OwnedMention
or_last None last = last
or_last (Some mention) last = Some mention

-- the first of a name, where one more mention stands last
first_more : (name : List ℕ) (mentions : List OwnedMention) (last : OwnedMention) (o : Option OwnedMention) → first_mention name mentions ≡ o
    → first_mention name (mentions ++ last ∷ []) ≡ or_last o (cond (bytes_eq name last.name) (Some last) None)
first_more name [] last o is = ap (λ o. or_last o (cond (bytes_eq name last.name) (Some last) None)) is
first_more name (mention ∷ mentions) last o is = by (bytes_eq name mention.name) is (first_more name mentions last o)
  where
    by : (b : Bool) → cond b (Some mention) (first_mention name mentions) ≡ o
        → (first_mention name mentions ≡ o
        → first_mention name (mentions ++ last ∷ []) ≡ or_last o (cond (bytes_eq name last.name) (Some last) None))
        → cond b (Some mention) (first_mention name (mentions ++ last ∷ []))
        ≡ or_last o (cond (bytes_eq name last.name) (Some last) None)
    by true is others = ap (λ o. or_last o (cond (bytes_eq name last.name) (Some last) None)) is
    by false is others = others is

-- a name that is mentioned has a first mention
has_first : (mention : OwnedMention) (mentions : List OwnedMention) → Among mention mentions
    → first_mention mention.name mentions ≡ None → ⊥
has_first mention [] is none = is
has_first mention (other ∷ mentions) (inl is) none =
    by (bytes_eq mention.name other.name) ((bytes_eq-Decides mention.name other.name).1 (ap (λ m. m.name) is)) none
  where
    by : (b : Bool) → b ≡ true → cond b (Some other) (first_mention mention.name mentions) ≡ None → ⊥
    by true is none = cc
    by false is none = cc
has_first mention (other ∷ mentions) (inr is) none =
    by (bytes_eq mention.name other.name) none (has_first mention mentions is)
  where
    by : (b : Bool) → cond b (Some other) (first_mention mention.name mentions) ≡ None
        → (first_mention mention.name mentions ≡ None → ⊥) → ⊥
    by true none others = cc
    by false none others = others none

-- of one more mention that says what the first of its name does
agree_more : (mentions : List OwnedMention) (last : OwnedMention) → Agree mentions → is_other_mention mentions last ≡ false
    → Agree (mentions ++ last ∷ [])
agree_more mentions last agree fits mention is =
    ⊎_elim
    (λ old. by_old mention (first_mention mention.name mentions) refl (agree mention old) (has_first mention mentions old))
    (λ new. ⊎_elim
    (λ same. subst (λ m. is_other_mention (mentions ++ last ∷ []) m ≡ false) (sym same)
    (by_new (first_mention last.name mentions) refl fits))
    (λ none. absurd none) new)
    (among_either mention mentions (last ∷ []) is)
  where
    by_old : (mention : OwnedMention) (o : Option OwnedMention) → first_mention mention.name mentions ≡ o
        → differs_from mention (first_mention mention.name mentions) ≡ false
        → (first_mention mention.name mentions ≡ None → ⊥)
        → differs_from mention (first_mention mention.name (mentions ++ last ∷ [])) ≡ false
    by_old mention None is old some = absurd (some is)
    by_old mention (Some first) is old some =
        ap (differs_from mention) (first_more mention.name mentions last (Some first) is)
        ∙ sym (ap (differs_from mention) is) ∙ old

    by_new : (o : Option OwnedMention) → first_mention last.name mentions ≡ o
        → differs_from last (first_mention last.name mentions) ≡ false
        → differs_from last (first_mention last.name (mentions ++ last ∷ [])) ≡ false
    by_new None is fits =
        ap (differs_from last) (first_more last.name mentions last None is)
        ∙ ap (λ b. differs_from last (cond b (Some last) None)) (same_bytes_itself last.name)
        ∙ differs_not last
    by_new (Some first) is fits =
        ap (differs_from last) (first_more last.name mentions last (Some first) is)
        ∙ sym (ap (differs_from last) is) ∙ fits

-- where each part gives one mention at most, which says what the first of its name before it does
abbrev pub Fits : (Part → List OwnedMention) → List Part → Part → Type 0
Fits given earlier part =
    (given part ≡ []) ⊎ ((mention : OwnedMention) × (given part ≡ mention ∷ []) × (is_other_mention
    (flat_map given earlier) mention ≡ false))

agree_part : (given : Part → List OwnedMention) (earlier : List Part) (part : Part) → Fits given earlier part
    → Agree (flat_map given earlier) → Agree (flat_map given (earlier ++ part ∷ []))
agree_part given earlier part (inl none) agree =
    subst Agree
    (sym (flat_map-append given earlier (part ∷ []) ∙ ap (λ l. flat_map given earlier ++ (l ++ [])) none
    ∙ append-nil (flat_map given earlier))) agree
agree_part given earlier part (inr one) agree =
    subst Agree (sym (flat_map-append given earlier (part ∷ []) ∙ ap (λ l. flat_map given earlier ++ (l ++ [])) one.1))
    (agree_more (flat_map given earlier) one.0 agree one.2)

-- all parts' mentions agree
pub all_agree : (given : Part → List OwnedMention) (all earlier parts : List Part)
    → ((before : List Part) (part : Part) → IsFaultless all before part → Fits given before part)
    → faults_behind all earlier parts ≡ [] → Agree (flat_map given earlier) → Agree (flat_map given (earlier ++ parts))
all_agree given all earlier [] fits none agree = subst (λ l. Agree (flat_map given l)) (sym (append-nil earlier)) agree
all_agree given all earlier (part ∷ parts) fits none agree =
    let both = none_in_both (faults_of all earlier part) (faults_behind all (earlier ++ part ∷ []) parts) none in
    subst (λ l. Agree (flat_map given l)) (append_assoc earlier (part ∷ []) parts)
    (all_agree given all (earlier ++ part ∷ []) parts fits both.1
    (agree_part given earlier part (fits earlier part (faultless all earlier part both.0)) agree))

-- what two mentions of one name say
says_the_first : (mention : OwnedMention) (o : Option OwnedMention) (first : OwnedMention) → o ≡ Some first → differs_from mention o ≡ false
    → (mention.kind ≡ first.kind) × (mention.class ≡ first.class)
says_the_first mention o first is same =
    let equal = not-false (bytes_eq mention.kind first.kind && same_class mention.class first.class)
    (sym (ap (differs_from mention) is) ∙ same) in
    let both = and_parts (bytes_eq mention.kind first.kind) (same_class mention.class first.class) equal in
    ((bytes_eq-Decides mention.kind first.kind).0 both.0, classes_same mention.class first.class both.1)

pub agree_two : (mentions : List OwnedMention) → Agree mentions → (one other : OwnedMention) → Among one mentions → Among other mentions
    → one.name ≡ other.name → (one.kind ≡ other.kind) × (one.class ≡ other.class)
agree_two mentions agree one other first second same =
    by (first_mention one.name mentions) refl (has_first one mentions first)
  where
    by : (o : Option OwnedMention) → first_mention one.name mentions ≡ o → (first_mention one.name mentions ≡ None → ⊥)
        → (one.kind ≡ other.kind) × (one.class ≡ other.class)
    by None is some = absurd (some is)
    by (Some the_first) is some =
        let left = says_the_first one (first_mention one.name mentions) the_first is (agree one first) in
        let right = says_the_first other (first_mention other.name mentions) the_first
        (ap (λ n. first_mention n mentions) (sym same) ∙ is) (agree other second) in
        (left.0 ∙ sym right.0, left.1 ∙ sym right.1)
