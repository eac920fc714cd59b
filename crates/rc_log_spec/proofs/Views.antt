-- A log tells the first views and how many there are, and nothing else.
use Rattle.std.proofs.Common.{◌≡◌, ℕ, zero, suc, ◌-◌, ◌<◌, ◌≤◌, List, [], ◌∷◌, ◌++◌, length, take, Ok, ◌⊎◌, inl, inr, refl, sym, ap, ap₂, ◌∙◌, subst, arith}
use Rattle.std.specs.List.{AllByRecursion}
use Rattle.std.proofs.lemmas.Bool.{cases_lt}
use Rattle.std.proofs.lemmas.List.{length-append, length-take, take_all, take_at}
use Rattle.rc_deck.proofs.EachLemmas.{take_each, append_each}
use Rattle.rc_play_spec.specs.Shape.{Shape}
use Rattle.rc_play_spec.specs.View.{View}
use Rattle.rc_log_spec.specs.Log.{LogText, log_lines, text_of, log_text, most_told, largest_word, Counts, IsSmall, IsLog}
use Rattle.rc_log_spec.specs.Laws.{AllCount}
use Rattle.rc_log_spec.specs.Reading.{ended, read_log, grammar}
use Rattle.rc_play_spec.proofs.LineGrammars.{IsGrammarOf, text_read}
use Rattle.rc_play_spec.proofs.FieldLemmas.{ok_is}
use Rattle.rc_log_spec.proofs.OneLine.{lines_one}
use Rattle.rc_log_spec.proofs.Follows.{log_only, log_begins}
use Rattle.rc_log_spec.proofs.Taken.{log_taken}

pub is_grammar : (shape : Shape) → IsSmall shape → IsGrammarOf (grammar shape) (IsLog shape) text_of log_lines
is_grammar shape small =
    record {
      spelled = λ t. refl;
      one = lines_one shape small;
      taken = λ t is. (ended t, log_taken shape small t is, refl);
      only = log_only shape;
      goes_on = log_begins shape small;
    }

pub log_read : (shape : Shape) (t : LogText) → IsSmall shape → IsLog shape t → read_log shape (text_of t) ≡ Ok t
log_read shape t small is = text_read (is_grammar shape small) t is

pub views_have : (shape : Shape) (seat number : ℕ) (views : List View) → seat < shape.players → number ≤ largest_word → AllCount shape seat views → IsLog shape (log_text seat number views)
views_have shape seat number views less le all =
    record {
      seat = less;
      number = le;
      views = take_each (Counts shape seat) most_told views all.0;
      told = length-take most_told views;
      stops = all.1;
    }

-- ---- each log is that of some views: the last one again, as often as views are missing

abbrev again : {A : Type 0} → A → ℕ → List A
again x zero = []
again x (suc n) = x ∷ again x n

again_is : {A : Type 0} (P : A → Type 0) (x : A) (n : ℕ) → P x → (length (again x n) ≡ n) × AllByRecursion P (again x n)
again_is P x zero is = (refl, tt)
again_is P x (suc n) is = let r = again_is P x n is in (ap suc r.0, (is, r.1))

abbrev IsPadded : Shape → LogText → List View → Type 0
IsPadded shape t views = AllCount shape t.seat views × (log_text t.seat t.number views ≡ t)

few_case : (shape : Shape) (t : LogText) → IsLog shape t → length t.views ≡ t.stops → IsPadded shape t t.views
few_case shape t is e = (
  (is.views, omega (arith, is.stops, e)),
  ap₂ (λ (vs : List View) (n : ℕ). record { seat = t.seat; number = t.number; views = vs; stops = n }) (take_all most_told t.views (omega (arith, is.told))) e,
)

padded : (shape : Shape) (t : LogText) → IsLog shape t → (v : View) (rest : List View) → t.views ≡ v ∷ rest → most_told ≤ t.stops → (views : List View) × IsPadded shape t views
padded shape t is v rest e many =
    let all = subst (AllByRecursion (Counts shape t.seat)) e is.views in
    let more = again v (t.stops - most_told) in
    let r = again_is (Counts shape t.seat) v (t.stops - most_told) all.0 in
    let views = t.views ++ more in
    let long : length t.views ≡ most_told = omega (arith, is.told) in
    let count : length views ≡ t.stops = omega (arith, length-append t.views more, r.0, long) in (
      views,
      (
        (append_each (Counts shape t.seat) t.views more is.views r.1, omega (arith, count, is.stops)),
        ap₂ (λ (vs : List View) (n : ℕ). record { seat = t.seat; number = t.number; views = vs; stops = n }) (take_at t.views more most_told long) count,
      ),
    )

many_case : (shape : Shape) (t : LogText) → IsLog shape t → (vs : List View) → t.views ≡ vs → most_told ≤ t.stops → (views : List View) × IsPadded shape t views
many_case shape t is [] e many = absurd (omega (arith, is.told, ap length e))
many_case shape t is (v ∷ rest) e many = padded shape t is v rest e many

has_case : (shape : Shape) (t : LogText) → IsLog shape t → (t.stops < most_told) ⊎ (most_told ≤ t.stops) → (views : List View) × IsPadded shape t views
has_case shape t is (inl less) = (t.views, few_case shape t is (omega (arith, is.told)))
has_case shape t is (inr many) = many_case shape t is t.views refl many

pub log_has : (shape : Shape) (t : LogText) → IsLog shape t → (views : List View) × AllCount shape t.seat views × (log_text t.seat t.number views ≡ t)
log_has shape t is = let r = has_case shape t is (cases_lt t.stops most_told) in (r.0, r.1.0, r.1.1)

-- ---- two logs

pub tell_views : (shape : Shape) (seat number : ℕ) (views views' : List View) → IsSmall shape → seat < shape.players → number ≤ largest_word →
    AllCount shape seat views → AllCount shape seat views' →
    text_of (log_text seat number views) ≡ text_of (log_text seat number views') → (take most_told views ≡ take most_told views') × (length views ≡ length views')
tell_views shape seat number views views' small less le all all' e =
    let t = log_text seat number views in
    let t' = log_text seat number views' in
    let same : t ≡ t' = ok_is t t' (sym (log_read shape t small (views_have shape seat number views less le all)) ∙ ap (read_log shape) e
    ∙ log_read shape t' small (views_have shape seat number views' less le all')) in
    (ap (λ (t : LogText). t.views) same, ap (λ (t : LogText). t.stops) same)

pub views_tell : (seat number : ℕ) (views views' : List View) → (take most_told views ≡ take most_told views') × (length views ≡ length views') →
    text_of (log_text seat number views) ≡ text_of (log_text seat number views')
views_tell seat number views views' e =
    ap₂ (λ (vs : List View) (n : ℕ). text_of (record { seat = seat; number = number; views = vs; stops = n })) e.0 e.1
