-- What is read is told by the laws of logs.
use Rattle.std.proofs.Common.{◌≡◌, ℕ, ◌<◌, ◌==◌, Bool, List, length, codes, Option, Some, None, Result, Ok, Err, IfOk, IfErr, refl, sym, ap, arith, ne_eqb}
use Rattle.std.proofs.lemmas.Bool.{cond-false}
use Rattle.rc_play_spec.specs.Shape.{Shape}
use Rattle.rc_play_spec.specs.View.{Sight, View}
use Rattle.rc_table.specs.Shape.{IsShape}
use Rattle.rc_play_spec.specs.Fields.{◌>>=◌, number}
use Rattle.rc_play_spec.proofs.FieldLemmas.{bind_some, some_is, number-only}
use Rattle.rc_log_spec.specs.Lines.{sight_in, place_in}
use Rattle.rc_log_spec.specs.Log.{text_of, IsLog}
use Rattle.rc_log_spec.specs.Reading.{place_at, behind_place, with_sight, read_log}
use Rattle.rc_log_spec.specs.Laws.{ReadIsLog, FaultIsFirst, LogHasViews, IsFirstFaultOf}
use Rattle.rc_log_spec.proofs.Matches.{is_small}
use Rattle.rc_seatlog.specs.Seen.{log_seen}
use Rattle.rc_seatlog.specs.Gives.{Gives, IfLogFault, IsOfViews}
use Rattle.rc_seatlog.specs.declared.told.LogText.{LogText}
use Rattle.rc_seatlog.specs.declared.reading.LogFail.{LogFail}
use Rattle.rc_seatlog.specs.declared.reading.LogFail.TheVariants.{Fault, Memory}

pub read_is : (shape : Shape) (bytes : List ℕ) (r : Result LogText LogFail) → IsShape shape → Gives r (read_log shape bytes) → ReadIsLog → IfOk r (λ text. IsLog shape (log_seen text))
read_is shape bytes (Ok text) is gives only = (only shape bytes (log_seen text) (is_small shape is) gives).0
read_is shape bytes (Err fail) is gives only = tt

pub read_spelled : (shape : Shape) (bytes : List ℕ) (r : Result LogText LogFail) → IsShape shape → Gives r (read_log shape bytes) → ReadIsLog → IfOk r (λ text. bytes ≡ text_of (log_seen text))
read_spelled shape bytes (Ok text) is gives only = (only shape bytes (log_seen text) (is_small shape is) gives).1
read_spelled shape bytes (Err fail) is gives only = tt

pub read_of : (shape : Shape) (bytes : List ℕ) (r : Result LogText LogFail) → IsShape shape → Gives r (read_log shape bytes) → ReadIsLog → LogHasViews → IfOk r (λ text. IsOfViews shape (log_seen text))
read_of shape bytes (Ok text) is gives only has = has shape (log_seen text) (only shape bytes (log_seen text) (is_small shape is) gives).0
read_of shape bytes (Err fail) is gives only has = tt

pub fault_first : (shape : Shape) (bytes : List ℕ) (r : Result LogText LogFail) → IsShape shape → Gives r (read_log shape bytes) → FaultIsFirst →
    IfErr r (λ fail. IfLogFault fail (IsFirstFaultOf shape bytes))
fault_first shape bytes (Ok text) is gives only = tt
fault_first shape bytes (Err (Fault line)) is gives only = only shape bytes line (is_small shape is) gives
fault_first shape bytes (Err Memory) is gives only = tt

-- a location's number that a line can tell isn't so large
far_case : (shape : Shape) (seat n : ℕ) (views : List View) (v : View) (seen : Bool) (bytes : List ℕ) (o : Option (ℕ × Sight)) → place_in shape seen bytes ≡ o →
    65535 < length v.sights → (o >>= place_at shape seat n views v) ≡ None
far_case shape seat n views v seen bytes None e far = refl
far_case shape seat n views v seen bytes (Some x) e far =
    let a = bind_some (number (codes "place ") 65535 bytes) _ x e in
    let b = bind_some (sight_in shape seen a.0.1) _ x a.2 in
    let m = number-only (codes "place ") 65535 bytes a.0 a.1 (omega arith) in
    let loc : x.0 ≡ a.0.0 = ap (λ (y : ℕ × Sight). y.0) (sym (some_is (a.0.0, b.0) x b.2)) in
    cond-false (x.0 == length v.sights) (Some (behind_place shape seat n views (with_sight v x.1))) None (ne_eqb x.0 (length v.sights) (λ same. absurd (omega (arith, same, loc, m.0, far))))

pub too_far : (shape : Shape) (seat n : ℕ) (views : List View) (v : View) (seen : Bool) (bytes : List ℕ) → 65535 < length v.sights → (place_in shape seen bytes >>= place_at shape seat n views v) ≡ None
too_far shape seat n views v seen bytes far = far_case shape seat n views v seen bytes (place_in shape seen bytes) refl far
