-- What is played is judged legal, in either format, and migrated.
use Rattle.std.proofs.Common.{◌≡◌, ℕ, Bool, true, false, ◌+◌, ◌<◌, ◌⊎◌, List, [], ◌∷◌, ◌++◌, inl, inr, length, drop, refl, sym, ap, ◌∙◌, subst, arith}
use Rattle.rc_base.specs.Spelled.{Spelled}
use Rattle.rc_base.specs.Tree.{Tree}
use Rattle.rc_sheet_spec.specs.Sheet.{Sheet}
use Rattle.rc_play_spec.specs.About.{About, about_of}
use Rattle.rc_play_spec.specs.Plan.{Plan}
use Rattle.rc_series.specs.Series.{looks_of}
use Rattle.rc_play_spec.specs.HouseText.{HouseText}
use Rattle.rc_play_spec.specs.PlayedLaws.{played_text, told_in, house_text_in}
use Rattle.rc_play_spec.specs.PlayedBack.{IsPlayable, IsToldBack}
use Rattle.rc_play_spec.proofs.Behind.{dropped_behind, spelled_behind}
use Rattle.rc_play_spec.proofs.ToldBack.{told_back}
use Rattle.rc_sheet.specs.Accepted.{IsAccepted}
use Rattle.rc_house.specs.declared.options.Options.{Options}
use Rattle.rc_house.specs.declared.options.Format.{Format}
use Rattle.rc_house.specs.Words.{is_named}
use Rattle.rc_house.specs.declared.task.Task.TheVariants.{Play, Check, Migrate}
use Rattle.rc_house.specs.declared.transcript.Judging.{Judging}
use Rattle.rc_house.specs.declared.transcript.Judging.TheVariants as judging
use Rattle.rc_house.specs.AcceptedPlan.{IsPlanRead}
use Rattle.rc_house.specs.Reading.{Reading, IsAcceptedWith}
use Rattle.rc_house.specs.Answer.{text, answer_in, judged_as, legal_answer, read_answer, tells_bounds, transcript_answer, house_played, called_legal, IsAnswered, HasAnswer, accepted, task_of}
use Rattle.rc_house.specs.PlayedLaws.{PlayedIsLegal, IsPlayedBehind, PlayedIsAnsweredLegal, PlayedIsChecked, PlayedIsMigrated, IsMeasuredBehind, PlayedIsMeasured}
use Rattle.rc_house.proofs.SourceAnswers.{first_accepted, transcript_accepted}
use Rattle.rc_house.proofs.Cards.{cards_few}
use Rattle.rc_house.proofs.OneAnswer.{same_texts, text_accepted}
use Rattle.rc_house.proofs.SomeAnswer.{some_hits}

-- a house text begins with the line of its format
format_told : (named : Bool) (about : About) (plan : Plan) → tells_bounds (house_text_in named about plan) ≡ named
format_told false about plan = refl
format_told true about plan = refl

text_told : (named : Bool) (about : About) (plan : Plan) (told : HouseText) → (told_in named about plan told).text ≡ told
text_told false about plan told = refl
text_told true about plan told = refl

-- The house text of an accepted sheet and plan is answered as a legal one.
played_answered : (asked : Judging) (named : Bool) (form : Tree) (sheet : Sheet) (others : List Tree) (plan : Plan) → IsAccepted form sheet
    → IsPlanRead sheet.players others plan
    → transcript_answer asked (about_of sheet plan.turns) plan (house_text_in named (about_of sheet plan.turns) plan)
    ≡ legal_answer asked (about_of sheet plan.turns) plan (played_text (about_of sheet plan.turns) plan)
played_answered asked named form sheet [] plan is read = absurd read
played_answered asked named form sheet (plan_form ∷ others) plan is read =
    let about : About = about_of sheet plan.turns in
    let told : HouseText = played_text about plan in
    let playable : IsPlayable about plan =
    record { shape = refl; well = is.of_form.well; sight = is.sight; turns = refl; within = read.within; seats = read.seats } in
    let back : IsToldBack named about plan = told_back about plan playable (cards_few sheet is.of_form.well) named in
    ap (λ told. answer_in asked told about plan (house_text_in named about plan)) (format_told named about plan)
    ∙ ap (read_answer asked named about plan) back.read
    ∙ ap (judged_as (legal_answer asked about plan (told_in named about plan told).text)) back.passed
    ∙ ap (legal_answer asked about plan) (text_told named about plan told)

pub played_legal : PlayedIsLegal
played_legal named form sheet others plan is read = played_answered judging.Check named form sheet others plan is read

-- the same where it stands behind them
answered_behind : (asked : Judging) (named : Bool) (source : List ℕ) (form : Tree) (others : List Tree) (rest : ℕ) (sheet : Sheet) (plan : Plan)
    → Spelled source 2 (form ∷ others) rest → IsAccepted form sheet → IsPlanRead sheet.players others plan
    → drop rest source ≡ house_text_in named (about_of sheet plan.turns) plan
    → HasAnswer (task_of asked) source (legal_answer asked (about_of sheet plan.turns) plan (played_text (about_of sheet plan.turns) plan))
answered_behind asked named source form others rest sheet plan spelled is read told =
    let about : About = about_of sheet plan.turns in
    let answer = ap (transcript_answer asked about plan) told ∙ played_answered asked named form sheet others plan is read in
    transcript_accepted asked source (form ∷ others) rest sheet (legal_answer asked about plan (played_text about plan)) spelled
    (first_accepted (form ∷ others) form others sheet refl is)
    (λ first more same. (plan, subst (λ others. IsPlanRead sheet.players others plan) (behind first more same) read, sym answer))
  where
    behind : (first : Tree) (more : List Tree) → form ∷ others ≡ first ∷ more → others ≡ more
    behind first more same = cc

pub answered_legal : PlayedIsAnsweredLegal
answered_legal named source read is = by read.lists read.spelled is
  where
    by : (lists : List Tree) → Spelled source 2 lists read.rest → IsAcceptedWith (IsPlayedBehind named source read.rest) lists → HasAnswer Check source called_legal
    by [] spelled is = absurd is
    by (form ∷ others) spelled is =
        answered_behind judging.Check named source form others read.rest is.0 is.2.0 spelled is.1 is.2.1 is.2.2

-- the bytes of a text
pub same_bytes : (bytes bytes' note note' : List ℕ) (playouts playouts' : ℕ) →
    text bytes note playouts ≡ text bytes' note' playouts' → bytes ≡ bytes'
same_bytes bytes bytes' note note' playouts playouts' same = cc

-- where two lists are wanted, and there is a second, there is no third
just_two : (first second : Tree) (more : List Tree) (P : Type 0) →
    (length (first ∷ second ∷ more) ≡ 2) ⊎ ((length (first ∷ second ∷ more) < 2) × P) → length (first ∷ second ∷ more) ≡ 2
just_two first second more P (inl same) = same
just_two first second more P (inr fewer) = let less = fewer.0 in absurd (omega (arith, less))

-- Forms that a whole source spells it spells with a house text behind it too.
spelled_before : (named : Bool) (about : About) (plan : Plan) (source : List ℕ) (lists : List Tree) → Spelled source 2 lists (length source) → length lists ≡ 2
    → Spelled (source ++ 10 ∷ house_text_in named about plan) 2 lists (length source + 1)
spelled_before false about plan source lists spelled two = spelled_behind source 2 lists _ _ spelled two refl
spelled_before true about plan source lists spelled two = spelled_behind source 2 lists _ _ spelled two refl

-- What is written for a source is answered as a legal transcript behind it.
written_behind : (asked : Judging) (options : Options) (source bytes note : List ℕ) (playouts : ℕ) (form plan_form : Tree) (more : List Tree) (rest : ℕ) (sheet : Sheet)
    → Spelled source 2 (form ∷ plan_form ∷ more) rest → IsAccepted form sheet
    → (has : IsAnswered (Play options) source sheet (plan_form ∷ more) rest (text bytes note playouts))
    → HasAnswer (task_of asked) (source ++ 10 ∷ bytes) (legal_answer asked (about_of sheet has.0.turns) has.0 (played_text (about_of sheet has.0.turns) has.0))
written_behind asked options source bytes note playouts form plan_form more rest sheet spelled is has =
    let plan = has.0 in
    let about : About = about_of sheet plan.turns in
    let house : List ℕ = house_text_in (is_named options.format) about plan in
    let lists : List Tree = form ∷ plan_form ∷ more in
    let whole : Spelled source 2 lists (length source) = subst (Spelled source 2 lists) has.1.1 spelled in
    let behind = spelled_before (is_named options.format) about plan source lists whole (just_two form plan_form more _ spelled.enough) in
    subst (λ bytes. HasAnswer (task_of asked) (source ++ 10 ∷ bytes) (legal_answer asked about plan (played_text about plan)))
    (sym (same_bytes bytes house note _ playouts _ has.2.2))
    (answered_behind asked (is_named options.format) (source ++ 10 ∷ house) form (plan_form ∷ more) (length source + 1) sheet plan behind is has.1.0
    (dropped_behind source house))

pub played_checked : PlayedIsChecked
played_checked options source bytes note playouts has =
    let found = text_accepted options source bytes note playouts has in by found.0.lists found.0.rest found.0.spelled found.1
  where
    by : (lists : List Tree) (rest : ℕ) → Spelled source 2 lists rest →
        IsAcceptedWith (λ sheet others. IsAnswered (Play options) source sheet others rest (text bytes note playouts)) lists →
        HasAnswer Check (source ++ 10 ∷ bytes) called_legal
    by [] rest spelled has = absurd has
    by (form ∷ []) rest spelled has = absurd has.2.1.0
    by (form ∷ plan_form ∷ more) rest spelled has =
        written_behind judging.Check options source bytes note playouts form plan_form more rest has.0 spelled has.1 has.2

pub played_migrated : PlayedIsMigrated
played_migrated options others source bytes bytes' note note' playouts playouts' named has has' =
    let found = text_accepted options source bytes note playouts has in by found.0.lists found.0.rest found.0.spelled found.1
  where
    by : (lists : List Tree) (rest : ℕ) → Spelled source 2 lists rest →
        IsAcceptedWith (λ sheet lists. IsAnswered (Play options) source sheet lists rest (text bytes note playouts)) lists →
        HasAnswer Migrate (source ++ 10 ∷ bytes) (text bytes' [] 0)
    by [] rest spelled has = absurd has
    by (form ∷ []) rest spelled has = absurd has.2.1.0
    by (form ∷ plan_form ∷ more) rest spelled has =
        let sheet : Sheet = has.0 in
        let plan : Plan = has.2.0 in
        let about : About = about_of sheet plan.turns in
        let hits = some_hits others (looks_of about plan) in
        let read : Reading source 2 = record { lists = form ∷ plan_form ∷ more; rest = rest; spelled = spelled } in
        let own : HasAnswer (Play others) source (house_played others about plan hits.0) =
        accepted read (sheet, has.1, (plan, has.2.1, (hits.0, hits.1, refl))) in
        let same : house_text_in true about plan ≡ bytes' =
        ap (λ (format : Format). house_text_in (is_named format) about plan) (sym named) ∙ same_texts others others source _ bytes' _ note' _ playouts' refl own has' in
        subst (λ bytes'. HasAnswer Migrate (source ++ 10 ∷ bytes) (text bytes' [] 0)) same
        (written_behind judging.Migrate options source bytes note playouts form plan_form more rest sheet spelled has.1 has.2)

pub played_measured : PlayedIsMeasured
played_measured options source bytes note playouts has =
    let found = text_accepted options source bytes note playouts has in
    (found.0, by found.0.lists found.0.rest found.0.spelled found.1)
  where
    by : (lists : List Tree) (rest : ℕ) → Spelled source 2 lists rest →
        IsAcceptedWith (λ sheet others. IsAnswered (Play options) source sheet others rest (text bytes note playouts)) lists →
        IsAcceptedWith (IsMeasuredBehind source rest bytes) lists
    by [] rest spelled has = absurd has
    by (form ∷ []) rest spelled has = absurd has.2.1.0
    by (form ∷ plan_form ∷ more) rest spelled has = (
      has.0,
      has.1,
      (has.2.0, has.2.1, written_behind judging.Measure options source bytes note playouts form plan_form more rest has.0 spelled has.1 has.2),
    )
