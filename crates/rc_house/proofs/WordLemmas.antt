-- Lists of words, and the commands that they are.
use Rattle.std.proofs.Common.{◌≡◌, ℕ, ◌≤◌, ◌-◌, List, [], ◌∷◌, map, take, drop, length, get_or, codes, refl, ap, sym, subst, ◌∙◌, arith, Option, Some, None, String, string_bytes, slice_index, Global, IfNone, IfSome, IsSomeAnd, ◌==◌, false}
use Rattle.std.proofs.lemmas.List.{take_rest}
use Rattle.std.proofs.lemmas.Bool.{eq-eqb, false≢true}
use Rattle.rc_house.specs.Words.{HasOptions}
use Rattle.rc_house.specs.Command.{IsCommand, IsBench, IsRival, IsWatch, SpellRival}
use Rattle.rc_house.specs.declared.options.Options.{Options}
use Rattle.rc_house.specs.declared.reader.Playing.TheVariants as playing
use Rattle.rc_house.specs.declared.rival.Rival.{Rival}
use Rattle.rc_house.specs.declared.command.Command.{Command}
use Rattle.rc_house.specs.declared.command.Command.TheVariants.{Play, Check, Sheet, Bench, Migrate, Watch, Measure, Rival as SearchesFor}

abbrev Text : Type 0
Text = List ℕ

-- the first word, and the words behind it
abbrev pub first_of : List Text → Text
first_of [] = []
first_of (word ∷ words) = word

abbrev pub behind_first : List Text → List Text
behind_first [] = []
behind_first (word ∷ words) = words

abbrev bytes_of : List (String Global) → List Text
bytes_of = map string_bytes

pub behind_one : (words : List (String Global)) → bytes_of (take (length words - 1) (drop 1 words)) ≡ behind_first (bytes_of words)
behind_one [] = refl
behind_one (word ∷ words) = ap bytes_of (take_rest (word ∷ words) 1)

pub split_one : (words : List (String Global)) (word : String Global) → 1 ≤ length words → word ≡ get_or words 0 word
    → bytes_of words ≡ string_bytes word ∷ bytes_of (take (length words - 1) (drop 1 words))
split_one [] word some is = absurd (omega arith)
split_one (first ∷ words) word some is =
    ap (λ x. string_bytes x ∷ bytes_of words) (sym is) ∙ ap (λ x. string_bytes word ∷ bytes_of x) (sym (take_rest (first ∷ words) 1))

pub split_two : (words : List (String Global)) (word value : String Global) → 2 ≤ length words → word ≡ get_or words 0 word
    → value ≡ get_or words 1 value
    → bytes_of words ≡ string_bytes word ∷ string_bytes value ∷ bytes_of (take (length words - 2) (drop 2 words))
split_two [] word value some is next_is = absurd (omega arith)
split_two (first ∷ []) word value some is next_is = absurd (omega arith)
split_two (first ∷ second ∷ words) word value some is next_is =
    ap (λ x. string_bytes x ∷ string_bytes second ∷ bytes_of words) (sym is)
    ∙ ap (λ x. string_bytes word ∷ string_bytes x ∷ bytes_of words) (sym next_is)
    ∙ ap (λ x. string_bytes word ∷ string_bytes value ∷ bytes_of x) (sym (take_rest (first ∷ second ∷ words) 2))

-- what is there has what follows from what it has
pub some_weaker : {T : Type 0} {P Q : T → Type 0} (found : Option T) → ((x : T) → P x → Q x) → IfSome found P → IfSome found Q
some_weaker None f holds = tt
some_weaker (Some x) f holds = f x holds

-- where one thing is out of the question, so is what it follows from
pub none_weaker : {T P Q : Type 0} (found : Option T) → (P → Q) → IfNone found P → IfNone found Q
none_weaker None f holds = f holds
none_weaker (Some x) f holds = tt

pub of_some : {T : Type 0} (P : T → Type 0) (found : Option T) (x : T) → found ≡ Some x → IsSomeAnd found P → P x
of_some P found x is holds = subst (λ y. IsSomeAnd y P) is holds

pub of_none : {T : Type 0} (P : T → Type 0) (found : Option T) → found ≡ None → IsSomeAnd found P → ⊥
of_none P found is holds = subst (λ y. IsSomeAnd y P) is holds

-- words with another first byte are no command of this name
differ : (name mine other : Text) (rest later : List Text) → (slice_index mine 0 == slice_index other 0) ≡ false → name ≡ mine
    → name ∷ rest ≡ other ∷ later → ⊥
differ name mine other rest later apart named is =
    false≢true (sym apart ∙ eq-eqb (slice_index mine 0) (slice_index other 0)
    (ap (λ x. slice_index x 0) (sym named) ∙ ap (λ x. slice_index (first_of x) 0) is))

pub no_play : (name : Text) (rest : List Text) → name ≡ codes "play" → ((options : Options) → HasOptions playing.Play rest options → ⊥)
    → (command : Command) → IsCommand (name ∷ rest) command → ⊥
no_play name rest named none (Play options) (later, is, has) = none options (subst (λ x. HasOptions playing.Play x options) (sym (ap behind_first is)) has)
no_play name rest named none Check is = differ name (codes "play") (codes "check") rest [] refl named is
no_play name rest named none Sheet is = differ name (codes "play") (codes "sheet") rest [] refl named is
no_play name rest named none Migrate is = differ name (codes "play") (codes "migrate") rest [] refl named is
no_play name rest named none (Bench number options) (later, is, has) = differ name (codes "play") (codes "bench") rest later refl named is
no_play name rest named none (Watch seat number) (later, is, has) = differ name (codes "play") (codes "watch") rest later refl named is
no_play name rest named none Measure is = differ name (codes "play") (codes "measure") rest [] refl named is
no_play name rest named none (SearchesFor rival) (later, is, has) = differ name (codes "play") (codes "rival") rest later refl named is

pub no_bench : (name : Text) (rest : List Text) → name ≡ codes "bench" → ((number : ℕ) (options : Options) → IsBench rest number options → ⊥)
    → (command : Command) → IsCommand (name ∷ rest) command → ⊥
no_bench name rest named none (Bench number options) (later, is, has) =
    none number options (subst (λ x. IsBench x number options) (sym (ap behind_first is)) has)
no_bench name rest named none Check is = differ name (codes "bench") (codes "check") rest [] refl named is
no_bench name rest named none Sheet is = differ name (codes "bench") (codes "sheet") rest [] refl named is
no_bench name rest named none Migrate is = differ name (codes "bench") (codes "migrate") rest [] refl named is
no_bench name rest named none (Play options) (later, is, has) = differ name (codes "bench") (codes "play") rest later refl named is
no_bench name rest named none (Watch seat number) (later, is, has) = differ name (codes "bench") (codes "watch") rest later refl named is
no_bench name rest named none Measure is = differ name (codes "bench") (codes "measure") rest [] refl named is
no_bench name rest named none (SearchesFor rival) (later, is, has) = differ name (codes "bench") (codes "rival") rest later refl named is

pub no_watch : (name : Text) (rest : List Text) → name ≡ codes "watch" → ((seat number : ℕ) → IsWatch rest seat number → ⊥)
    → (command : Command) → IsCommand (name ∷ rest) command → ⊥
no_watch name rest named none (Watch seat number) (later, is, has) =
    none seat number (subst (λ x. IsWatch x seat number) (sym (ap behind_first is)) has)
no_watch name rest named none Check is = differ name (codes "watch") (codes "check") rest [] refl named is
no_watch name rest named none Sheet is = differ name (codes "watch") (codes "sheet") rest [] refl named is
no_watch name rest named none Migrate is = differ name (codes "watch") (codes "migrate") rest [] refl named is
no_watch name rest named none (Play options) (later, is, has) = differ name (codes "watch") (codes "play") rest later refl named is
no_watch name rest named none (Bench number options) (later, is, has) = differ name (codes "watch") (codes "bench") rest later refl named is
no_watch name rest named none Measure is = differ name (codes "watch") (codes "measure") rest [] refl named is
no_watch name rest named none (SearchesFor rival) (later, is, has) = differ name (codes "watch") (codes "rival") rest later refl named is

-- four words, told one by one
pub four_words : (words : List (String Global)) (a b c d : String Global) → length words ≡ 4
    → a ≡ get_or words 0 a → b ≡ get_or words 1 b → c ≡ get_or words 2 c → d ≡ get_or words 3 d
    → bytes_of words ≡ string_bytes a ∷ string_bytes b ∷ string_bytes c ∷ string_bytes d ∷ []
four_words [] a b c d four first second third last = absurd (omega (arith, four))
four_words (v ∷ []) a b c d four first second third last = absurd (omega (arith, four))
four_words (v ∷ w ∷ []) a b c d four first second third last = absurd (omega (arith, four))
four_words (v ∷ w ∷ x ∷ []) a b c d four first second third last = absurd (omega (arith, four))
four_words (v ∷ w ∷ x ∷ y ∷ []) a b c d four first second third last =
    λ i. string_bytes (sym first i) ∷ string_bytes (sym second i) ∷ string_bytes (sym third i) ∷ string_bytes (sym last i) ∷ []
four_words (v ∷ w ∷ x ∷ y ∷ z ∷ words) a b c d four first second third last = absurd (omega (arith, four))

-- words that spell no search by their first four
pub not_spelled : (words : List Text) (strategy depth rounds key : Text) → words ≡ strategy ∷ depth ∷ rounds ∷ key ∷ []
    → ((rival : Rival) → SpellRival strategy depth rounds key rival → ⊥) → (rival : Rival) → IsRival words rival → ⊥
not_spelled words strategy depth rounds key are none rival (strategy', depth', rounds', key', split, spelled) =
    none rival
    (subst (λ these. SpellRival (first_of these) (first_of (drop 1 these)) (first_of (drop 2 these)) (first_of (drop 3 these)) rival)
    (sym split ∙ are) spelled)

pub no_rival : (name : Text) (rest : List Text) → name ≡ codes "rival" → ((rival : Rival) → IsRival rest rival → ⊥)
    → (command : Command) → IsCommand (name ∷ rest) command → ⊥
no_rival name rest named none (SearchesFor rival) (later, is, has) =
    none rival (subst (λ x. IsRival x rival) (sym (ap behind_first is)) has)
no_rival name rest named none Check is = differ name (codes "rival") (codes "check") rest [] refl named is
no_rival name rest named none Sheet is = differ name (codes "rival") (codes "sheet") rest [] refl named is
no_rival name rest named none Migrate is = differ name (codes "rival") (codes "migrate") rest [] refl named is
no_rival name rest named none Measure is = differ name (codes "rival") (codes "measure") rest [] refl named is
no_rival name rest named none (Play options) (later, is, has) = differ name (codes "rival") (codes "play") rest later refl named is
no_rival name rest named none (Bench number options) (later, is, has) = differ name (codes "rival") (codes "bench") rest later refl named is
no_rival name rest named none (Watch seat number) (later, is, has) = differ name (codes "rival") (codes "watch") rest later refl named is

pub no_options : (words : List (String Global)) → ((options : Options) → HasOptions playing.Bench (bytes_of (take (length words - 1) (drop 1 words))) options → ⊥)
    → (number : ℕ) (options : Options) → IsBench (bytes_of words) number options → ⊥
no_options words none number options (text, rest, is, spelled, has) =
    none options (subst (λ x. HasOptions playing.Bench x options) (sym (behind_one words ∙ ap behind_first is)) has)
