-- What `clap` makes of words that are options: their texts. The reader goes over the words, and stands behind each option at
-- rows of the options before.
use Rattle.std.proofs.Common.{◌≡◌, ℕ, Bool, true, false, not, List, [], ◌∷◌, ◌++◌, map, Option, Some, None, codes, refl, ◌==◌, ◌&&◌, ◌||◌, ◌∙◌, ap, ap₂, fold, if◌then◌else◌, is_some, bytes_eq, inl, inr, sym, subst}
use Rattle.std.specs.Option.{option_map_or}
use Rattle.std.specs.List.{list_all}
use Rattle.std.specs.Prelude.{find, option_and_then, slice_get}
use Rattle.std.proofs.lemmas.List.{append-nil, append_assoc, map-append}
use Rattle.clap.specs.Lexer.{long_of, short_of}
use Rattle.clap.specs.Walk.{Rule, Row, Walk, Held, first_of, finished, walk_from, walked, after_step, plain_word, word_met, long_or_other, short_or_plain, trailing, option, idle, nothing_held, at_row, used, settled_rows, has_row, with_default, reading_by, arg_by_id, arg_by_long, reacted, settled, more_values, used_by_id}
use Rattle.clap.specs.Walk as walk_step
use Rattle.clap.specs.Simple.{Shape, built, entered, filled, is_simple, matches_of}
use Rattle.clap.specs.Takes.{takes, turn_passes, walk_passes, word_passes, flag_word_passes, bundle_passes, entered_passes, settle_passes, use_passes, react_passes, default_passes, is_valid, step_passes}
use Rattle.clap.specs.declared.parser.matches.ValueSource.TheVariants.{CommandLine}
use Rattle.clap.proofs.OnLiterals.{clap_on_literals}
use Rattle.rc_house.specs.Reader.{options_app, option_rule}
use Rattle.rc_house.specs.declared.option.OptionName.{OptionName}
use Rattle.rc_house.specs.declared.option.OptionName.TheVariants.{Workers, Cache, Format}
use Rattle.rc_house.specs.declared.reader.Playing.{Playing}
use Rattle.rc_house.specs.declared.reader.Playing.TheVariants.{Play, Bench}
use Rattle.rc_house.specs.Words.{Setting, AreSettings, AreOnce, name_of, is_same, text_in}
use Rattle.rc_house.proofs.SettingLemmas.{Has, Suits, AllSuit, AreNew, all_suit, are_new, not_there}

abbrev Text : Type 0
Text = List ℕ

-- the reader as it is built, and what it reads of its options
abbrev shape : Playing → Shape
shape playing = (built (options_app playing)).top

abbrev rule : OptionName → Rule
rule name = filled (option_rule (name_of name))

by_id : (playing : Playing) (name : OptionName) → Has playing name → arg_by_id (shape playing).rules (name_of name) ≡ Some (rule name)
by_id Play Workers has = refl
by_id Play Cache has = refl
by_id Play Format has = refl
by_id Bench Workers has = refl
by_id Bench Cache has = refl
by_id Bench Format has = absurd has

-- the words lead the reader from one state to another, and none is refused
abbrev Leads : Playing → Walk → List Text → Walk → Type 0
Leads playing from words to =
    (fold (walked (shape playing).rules []) from words ≡ to) × (walk_passes (shape playing) [] from words ≡ true)

stays : (playing : Playing) (w : Walk) → Leads playing w [] w
unfolding clap_on_literals
stays playing w = (refl, refl)

goes : (playing : Playing) (w between to : Walk) (word : Text) (rest : List Text) → walked (shape playing).rules [] w word ≡ between
    → turn_passes (shape playing) [] w word ≡ true → Leads playing between rest to → Leads playing w (word ∷ rest) to
unfolding walk_passes
goes playing w between to word rest e passes leads = (
  ap (λ x. fold (walked (shape playing).rules []) x rest) e ∙ leads.0,
  ap₂ (λ x y. x && walk_passes (shape playing) [] y rest) passes e ∙ leads.1,
)

-- the row of an option that is done
abbrev row : Setting → Row
row setting = record {
  id = name_of setting.name;
  values = setting.text ∷ [];
  count = None;
  source = Some CommandLine;
  reading = reading_by (rule setting.name);
}

-- no row is of an option that isn't named
no_row : (settings : List Setting) (name : OptionName) → text_in settings name ≡ None → has_row (name_of name) (map row settings) ≡ false
no_row [] name none = refl
no_row (setting ∷ settings) name none =
    let split = not_there setting settings name none in
    ap (λ b. b || has_row (name_of name) (map row settings)) split.0 ∙ no_row settings name split.1

new_row : (settings : List Setting) (name : OptionName) (change : Row → List Row) (missing : List Row) → text_in settings name ≡ None
    → at_row (name_of name) change missing (map row settings) ≡ map row settings ++ missing
new_row [] name change missing none = refl
new_row (setting ∷ settings) name change missing none =
    let split = not_there setting settings name none in
    ap (λ b. if b then change (row setting) ++ map row settings else row setting ∷ at_row (name_of name) change missing (map row settings)) split.0
    ∙ ap (λ x. row setting ∷ x) (new_row settings name change missing split.1)

-- what the first use of an option leaves
used_new : (settings : List Setting) (setting : Setting) → text_in settings setting.name ≡ None
    → used (rule setting.name) (setting.text ∷ []) (map row settings) ≡ map row (settings ++ setting ∷ [])
used_new settings setting none =
    let change = more_values CommandLine (setting.text ∷ []) in
    ap (at_row (name_of setting.name) change (row setting ∷ [])) (new_row settings setting.name (λ _. []) [] none ∙ append-nil (map row settings))
    ∙ new_row settings setting.name change (row setting ∷ []) none ∙ sym (map-append row settings (setting ∷ []))

-- the first use of an option passes
use_new : (settings : List Setting) (setting : Setting) → text_in settings setting.name ≡ None
    → use_passes false (rule setting.name) (setting.text ∷ []) (map row settings) ≡ true
use_new settings setting none = ap (λ b. (not b || false) && true) (no_row settings setting.name none)

-- where the reader stands behind options: the last one may still wait for its end
abbrev pending : Option Setting → Option (Text × List Text)
pending None = None
pending (Some setting) = Some (name_of setting.name, setting.text ∷ [])

abbrev held_at : List Setting → Option Setting → Held
held_at done last = record { rows = map row done; pending = pending last; skip = 0 }

abbrev at : List Setting → Option Setting → Walk
at done last = walk_from (held_at done last)

-- all options that stand before
abbrev all_of : List Setting → Option Setting → List Setting
all_of done None = done
all_of done (Some setting) = done ++ setting ∷ []

abbrev IsAt : Playing → List Setting → Option Setting → Type 0
IsAt playing done None = Unit {0}
IsAt playing done (Some setting) = (text_in done setting.name ≡ None) × Has playing setting.name

settles : (playing : Playing) (done : List Setting) (last : Option Setting) → IsAt playing done last
    → settled_rows (shape playing).rules (pending last) (map row done) ≡ map row (all_of done last)
settles playing done None stands = refl
settles playing done (Some setting) (none, has) =
    ap (λ x. used_by_id x (setting.text ∷ []) (map row done)) (by_id playing setting.name has) ∙ used_new done setting none

settling_passes : (playing : Playing) (done : List Setting) (last : Option Setting) → IsAt playing done last
    → settle_passes (shape playing).rules false (held_at done last) ≡ true
settling_passes playing done None stands = refl
settling_passes playing done (Some setting) (none, has) =
    ap (λ x. option_map_or (λ a. use_passes false a (setting.text ∷ []) (map row done)) x true) (by_id playing setting.name has) ∙ use_new done setting none

-- an option in one word
abbrev joined : OptionName → Text → Text
joined name text = codes "--" ++ name_of name ++ codes "=" ++ text

joined_leads : (playing : Playing) (name : OptionName) (text : Text) (h : Held) → Has playing name
    → walked (shape playing).rules [] (walk_from h) (joined name text) ≡ walk_from (reacted (shape playing).rules (rule name) (text ∷ []) h)
unfolding walked
joined_leads Play Workers text h has = refl
joined_leads Play Cache text h has = refl
joined_leads Play Format text h has = refl
joined_leads Bench Workers text h has = refl
joined_leads Bench Cache text h has = refl
joined_leads Bench Format text h has = absurd has

joined_passes : (playing : Playing) (name : OptionName) (text : Text) (h : Held) → Has playing name
    → turn_passes (shape playing) [] (walk_from h) (joined name text) ≡ (react_passes (shape playing).rules false (rule name) (text ∷ []) h && true)
joined_passes Play Workers text h has = refl
joined_passes Play Cache text h has = refl
joined_passes Play Format text h has = refl
joined_passes Bench Workers text h has = refl
joined_passes Bench Cache text h has = refl
joined_passes Bench Format text h has = absurd has

joined_goes : (playing : Playing) (done : List Setting) (last : Option Setting) (setting : Setting) (rest : List Text) (to : Walk) → IsAt playing done last
    → text_in (all_of done last) setting.name ≡ None → Has playing setting.name → Leads playing (at (all_of done last ++ setting ∷ []) None) rest to
    → Leads playing (at done last) (joined setting.name setting.text ∷ rest) to
joined_goes playing done last setting rest to stands none has leads =
    goes playing (at done last) (at (all_of done last ++ setting ∷ []) None) to (joined setting.name setting.text) rest
    (joined_leads playing setting.name setting.text (held_at done last) has
    ∙ ap (λ x. walk_from (record { rows = used (rule setting.name) (setting.text ∷ []) x; pending = None; skip = 0 })) (settles playing done last stands)
    ∙ ap (λ x. walk_from (record { rows = x; pending = None; skip = 0 })) (used_new (all_of done last) setting none))
    (joined_passes playing setting.name setting.text (held_at done last) has
    ∙ ap₂ (λ x y. (x && use_passes false (rule setting.name) (setting.text ∷ []) y) && true) (settling_passes playing done last stands) (settles playing done last stands)
    ∙ ap (λ x. x && true) (use_new (all_of done last) setting none))
    leads

-- an option in two words
abbrev flag : OptionName → Text
flag name = codes "--" ++ name_of name

-- the reader waits for the text of an option
abbrev waiting : List Row → OptionName → Walk
waiting rows name = record {
  held = record { rows = rows; pending = Some (name_of name, []); skip = 0 };
  waiting = option (name_of name);
  position = 1;
  is_trailing = false;
  stopped = None;
}

flag_leads : (playing : Playing) (name : OptionName) (rows : List Row) (last : Option (Text × List Text)) → Has playing name
    → walked (shape playing).rules [] (walk_from (record { rows = rows; pending = last; skip = 0 })) (flag name)
    ≡ waiting (settled_rows (shape playing).rules last rows) name
unfolding walked
flag_leads Play Workers rows last has = refl
flag_leads Play Cache rows last has = refl
flag_leads Play Format rows last has = refl
flag_leads Bench Workers rows last has = refl
flag_leads Bench Cache rows last has = refl
flag_leads Bench Format rows last has = absurd has

flag_passes : (playing : Playing) (name : OptionName) (h : Held) → Has playing name
    → turn_passes (shape playing) [] (walk_from h) (flag name) ≡ (settle_passes (shape playing).rules false h && true)
flag_passes Play Workers h has = refl
flag_passes Play Cache h has = refl
flag_passes Play Format h has = refl
flag_passes Bench Workers h has = refl
flag_passes Bench Cache h has = refl
flag_passes Bench Format h has = absurd has

-- a word that begins with no `-` is no flag
no_dashes : (b : ℕ) (bs : Text) → (b == 45) ≡ false → bytes_eq (b ∷ bs) (45 ∷ 45 ∷ []) ≡ false
no_dashes b bs e = rw e refl

no_long : (b : ℕ) (bs : Text) → (b == 45) ≡ false → long_of (b ∷ bs) ≡ None
no_long b bs e = rw e refl

no_short : (b : ℕ) (bs : Text) → (b == 45) ≡ false → short_of (b ∷ bs) ≡ None
no_short b bs e = rw e refl

-- such a word is the text of the option that waits for one
is_met : (rules : List Rule) (held : Held) (id : Text) (b : ℕ) (bs : Text) → (b == 45) ≡ false
    → word_met rules [] false (option id) 1 (b ∷ bs) held ≡ plain_word rules (option id) (b ∷ bs) held
is_met rules held id b bs e =
    let word = b ∷ bs in
    ap (λ x. if x then (held, trailing 1) else long_or_other rules (option id) word (long_of word) held) (no_dashes b bs e)
    ∙ ap (λ x. long_or_other rules (option id) word x held) (no_long b bs e)
    ∙ ap (λ x. short_or_plain rules (option id) word x held) (no_short b bs e)

text_passes : (s : Shape) (held : Held) (id : Text) (b : ℕ) (bs : Text) → (b == 45) ≡ false
    → word_passes s [] false (option id) (b ∷ bs) held ≡ true
text_passes s held id b bs e =
    let word = b ∷ bs in
    ap₂ (λ x y. x || flag_word_passes s.rules s.args_override_self y word held) (no_dashes b bs e) (no_long b bs e)
    ∙ ap (λ x. option_map_or (λ flags. bundle_passes s.rules s.args_override_self flags held) x true) (no_short b bs e)

-- the state behind it
text_taken : (playing : Playing) (name : OptionName) (rows : List Row) (word : Text) → Has playing name
    → plain_word (shape playing).rules (option (name_of name)) word (waiting rows name).held
    ≡ (record { rows = rows; pending = Some (name_of name, word ∷ []); skip = 0 }, walk_step.next idle)
text_taken Play Workers rows word has = refl
text_taken Play Cache rows word has = refl
text_taken Play Format rows word has = refl
text_taken Bench Workers rows word has = refl
text_taken Bench Cache rows word has = refl
text_taken Bench Format rows word has = absurd has

text_goes : (playing : Playing) (name : OptionName) (rows : List Row) (b : ℕ) (bs : Text) (rest : List Text) (to : Walk) → (b == 45) ≡ false → Has playing name
    → Leads playing (walk_from (record { rows = rows; pending = Some (name_of name, (b ∷ bs) ∷ []); skip = 0 })) rest to
    → Leads playing (waiting rows name) ((b ∷ bs) ∷ rest) to
unfolding walked
text_goes playing name rows b bs rest to e has leads =
    let rules = (shape playing).rules in
    let word = b ∷ bs in
    let met = is_met rules (waiting rows name).held (name_of name) b bs e ∙ text_taken playing name rows word has in
    goes playing (waiting rows name) (walk_from (record { rows = rows; pending = Some (name_of name, word ∷ []); skip = 0 })) to word rest
    (ap (λ x. after_step rules word (waiting rows name) x.0 x.1) met)
    (ap₂ (λ x y. x && step_passes (shape playing) 1 y.0 y.1) (text_passes (shape playing) (waiting rows name).held (name_of name) b bs e) met)
    leads

pair_goes : (playing : Playing) (done : List Setting) (last : Option Setting) (name : OptionName) (b : ℕ) (bs : Text) (rest : List Text) (to : Walk)
    → IsAt playing done last → (b == 45) ≡ false → Has playing name
    → Leads playing (at (all_of done last) (Some (record { name = name; text = b ∷ bs }))) rest to
    → Leads playing (at done last) (flag name ∷ (b ∷ bs) ∷ rest) to
pair_goes playing done last name b bs rest to stands e has leads =
    goes playing (at done last) (waiting (map row (all_of done last)) name) to (flag name) ((b ∷ bs) ∷ rest)
    (flag_leads playing name (map row done) (pending last) has ∙ ap (λ x. waiting x name) (settles playing done last stands))
    (flag_passes playing name (held_at done last) has ∙ ap (λ x. x && true) (settling_passes playing done last stands))
    (text_goes playing name (map row (all_of done last)) b bs rest to e has leads)

pair_leads : (playing : Playing) (done : List Setting) (last : Option Setting) (name : OptionName) (text : Text) (rest : List Text) (to : Walk)
    → IsAt playing done last → Suits playing name (Some text) → Leads playing (at (all_of done last) (Some (record { name = name; text = text }))) rest to
    → Leads playing (at done last) (flag name ∷ text ∷ rest) to
pair_leads playing done last name [] rest to stands suits leads = absurd suits
pair_leads playing done last name (b ∷ bs) rest to stands (plain, has) leads = pair_goes playing done last name b bs rest to stands plain has leads

had : (playing : Playing) (name : OptionName) (text : Text) → Suits playing name (Some text) → Has playing name
had playing name [] suits = absurd suits
had playing name (b ∷ bs) suits = suits.1

-- the words lead to where all their options stand before
record Reached (playing : Playing) (done : List Setting) (last : Option Setting) (settings : List Setting) (words : List Text) : Type 0 where
  before : List Setting
  end : Option Setting
  stands : IsAt playing before end
  leads : Leads playing (at done last) words (at before end)
  all : all_of before end ≡ all_of done last ++ settings

reaches : (playing : Playing) (done : List Setting) (last : Option Setting) (settings : List Setting) (words : List Text) → IsAt playing done last
    → AreNew (all_of done last) settings → AllSuit playing settings → AreSettings settings words → Reached playing done last settings words
reaches playing done last [] words stands new suit are = record {
  before = done;
  end = last;
  stands = stands;
  leads = subst (λ x. Leads playing (at done last) x (at done last)) (sym are) (stays playing (at done last));
  all = sym (append-nil (all_of done last));
}
reaches playing done last (setting ∷ settings) words stands (none, new) (suits, suit) (back, (front, inl is, split), are) =
    let has = had playing setting.name setting.text suits in
    let found = reaches playing (all_of done last) (Some setting) settings back (none, has) new suit are in
    record {
      before = found.before;
      end = found.end;
      stands = found.stands;
      leads = subst (λ x. Leads playing (at done last) x (at found.before found.end)) (sym (split ∙ ap (λ x. x ++ back) is))
          (pair_leads playing done last setting.name setting.text back (at found.before found.end) stands suits found.leads);
      all = found.all ∙ append_assoc (all_of done last) (setting ∷ []) settings;
    }
reaches playing done last (setting ∷ settings) words stands (none, new) (suits, suit) (back, (front, inr is, split), are) =
    let has = had playing setting.name setting.text suits in
    let found = reaches playing (all_of done last ++ setting ∷ []) None settings back tt new suit are in
    record {
      before = found.before;
      end = found.end;
      stands = found.stands;
      leads = subst (λ x. Leads playing (at done last) x (at found.before found.end)) (sym (split ∙ ap (λ x. x ++ back) is))
          (joined_goes playing done last setting back (at found.before found.end) stands none has found.leads);
      all = found.all ∙ append_assoc (all_of done last) (setting ∷ []) settings;
    }

-- what is read of rows
text_found : (settings : List Setting) (name : OptionName) → first_of (name_of name) (map row settings) ≡ text_in settings name
text_found [] name = refl
text_found (setting ∷ settings) name =
    by_cases (is_same setting.name name) ∙ ap (λ x. if is_same setting.name name then Some setting.text else x) (text_found settings name)
  where
    by_cases : (b : Bool) → option_and_then (λ r. slice_get r.values 0) (if b then Some (row setting) else find (λ r. bytes_eq r.id (name_of name)) (map row settings))
        ≡ (if b then Some setting.text else first_of (name_of name) (map row settings))
    by_cases true = refl
    by_cases false = refl

-- no option has a default
same_either : {T : Type 0} (b : Bool) (x : T) → (if b then x else x) ≡ x
same_either true x = refl
same_either false x = refl

no_defaults : (playing : Playing) (rows : List Row) → fold with_default rows (shape playing).rules ≡ rows
no_defaults Play rows =
    let workers = same_either (has_row (codes "workers") rows) rows in
    let cache = same_either (has_row (codes "cache") rows) rows in
    ap (λ x. with_default (with_default x (rule Cache)) (rule Format)) workers ∙ ap (λ x. with_default x (rule Format)) cache
    ∙ same_either (has_row (codes "format") rows) rows
no_defaults Bench rows =
    ap (λ x. with_default x (rule Cache)) (same_either (has_row (codes "workers") rows) rows) ∙ same_either (has_row (codes "cache") rows) rows

rows_at_end : (playing : Playing) (done : List Setting) (last : Option Setting) → IsAt playing done last
    → finished (shape playing).rules (held_at done last) ≡ map row (all_of done last)
rows_at_end playing done last stands =
    no_defaults playing (settled_rows (shape playing).rules (pending last) (map row done)) ∙ settles playing done last stands

-- what the end of a walk comes to
abbrev end_passes : Playing → Walk → Bool → Bool
end_passes playing end passes =
    let a = built (options_app playing) in
    is_simple (options_app playing) && (entered_passes a end.stopped && (passes
    && (settle_passes a.top.rules a.top.args_override_self end.held
    && (list_all default_passes a.top.rules && is_valid a.top (finished a.top.rules end.held) (is_some (entered a end.stopped))))))

end_settles : (playing : Playing) (h : Held) → end_passes playing (walk_from h) true ≡ (settle_passes (shape playing).rules false h && true)
end_settles Play h = refl
end_settles Bench h = refl

-- the reader takes the words, and finds these texts
abbrev pub Reads : Playing → List Text → (OptionName → Option Text) → Type 0
Reads playing words texts = (takes (options_app playing) words ≡ true)
    × ((name : OptionName) → first_of (name_of name) (matches_of (options_app playing) words) ≡ texts name)

reads : (playing : Playing) (settings : List Setting) (words : List Text) → Reached playing [] None settings words → Reads playing words (text_in settings)
reads playing settings words reached = (
  taken playing words ∙ ap₂ (end_passes playing) reached.leads.0 reached.leads.1 ∙ end_settles playing (held_at reached.before reached.end)
      ∙ ap (λ x. x && true) (settling_passes playing reached.before reached.end reached.stands),
  λ name. ap (first_of (name_of name)) (matched playing words ∙ ap (λ x. finished (shape playing).rules x.held) reached.leads.0
      ∙ rows_at_end playing reached.before reached.end reached.stands ∙ ap (map row) reached.all) ∙ text_found settings name,
)
  where
    taken : (playing : Playing) (words : List Text) → takes (options_app playing) words
        ≡ end_passes playing (fold (walked (shape playing).rules []) (walk_from nothing_held) words) (walk_passes (shape playing) [] (walk_from nothing_held) words)
    taken Play words = refl
    taken Bench words = refl

    matched : (playing : Playing) (words : List Text) → matches_of (options_app playing) words
        ≡ finished (shape playing).rules (fold (walked (shape playing).rules []) (walk_from nothing_held) words).held
    matched Play words = refl
    matched Bench words = refl

pub is_simple_reader : (playing : Playing) → is_simple (options_app playing) ≡ true
is_simple_reader Play = refl
is_simple_reader Bench = refl

pub options_read : (playing : Playing) (settings : List Setting) (words : List Text) → AreSettings settings words → AreOnce settings
    → ((name : OptionName) → Suits playing name (text_in settings name)) → Reads playing words (text_in settings)
options_read playing settings words are once suits =
    reads playing settings words (reaches playing [] None settings words tt (are_new settings once) (all_suit playing settings once suits) are)
