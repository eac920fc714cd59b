-- What is played and written for the bench's game is the bench's answer.
use Rattle.std.proofs.Common.{None, ◌≡◌, ◌≤◌, ◌+◌, ℕ, List, length, inl, inr, ◌∙◌, ap, subst, arith}
use Rattle.rc_base.specs.Transcript.{Record, Standing}
use Rattle.rc_base.specs.Tree.{Tree}
use Rattle.rc_play_spec.specs.About.{about_of}
use Rattle.rc_play_spec.specs.House.{standings_of}
use Rattle.rc_play_spec.specs.Plan.{Plan}
use Rattle.rc_series.specs.Series.{matches_of, looks_of}
use Rattle.rc_check.specs.SecondFaults.{sheet_fault}
use Rattle.rc_sheet.specs.Accepted.{IsSheetOf}
use Rattle.rc_sheet_spec.specs.Sheet.{Sheet}
use Rattle.rc_sheet_spec.specs.Sight.{IsUnseen}
use Rattle.rc_trick.specs.Bench.{bench_plan, bench_text}
use Rattle.rc_trick.specs.Trick.{IsTrickGame}
use Rattle.rc_house.specs.declared.options.Options.{Options}
use Rattle.rc_house.specs.declared.status.SourceKind.{SourceKind}
use Rattle.rc_house.specs.Accepted.{HasFirstFault}
use Rattle.rc_house.specs.Answer.{Answer, text, playouts_of}
use Rattle.rc_house.specs.Bench.{summed_up, IsSummedUp, IsBenched, IsBenchAnswer}
use Rattle.rc_house.specs.Players.{AreHits, counted_playouts}
use Rattle.rc_house.specs.Note.{looks_line}

-- a form that has no fault of a part, and whose sheet has none of sight, has none
pub no_first_fault : (tree : Tree) (kind : SourceKind) (at : ℕ) → sheet_fault tree ≡ None
    → ((sheet : Sheet) (at : ℕ) → IsSheetOf tree sheet → IsUnseen sheet at → ⊥) → HasFirstFault tree kind at → ⊥
no_first_fault tree kind at none sight (inl has) = let found = has.1 in absurd cc
no_first_fault tree kind at none sight (inr has) = sight has.1 at has.2 has.3

-- the summary of a series of matches by the bench's plan
pub summary_is : (options : Options) (number : ℕ) (sheet : Sheet) (plan : Plan) (records : List Record) (standings : List Standing)
    (bytes : List ℕ) (looks found : ℕ)
    → plan ≡ bench_plan number
    → records ≡ matches_of (about_of sheet plan.turns) plan
    → standings ≡ standings_of plan (matches_of (about_of sheet plan.turns) plan)
    → looks ≡ length (looks_of (about_of sheet plan.turns) plan)
    → AreHits options (looks_of (about_of sheet plan.turns) plan) found
    → bytes ≡ bench_text number records standings
    → IsBenched options number sheet (text bytes (looks_line looks found) (counted_playouts options (looks_of (about_of sheet plan.turns) plan)))
summary_is options number sheet plan records standings bytes looks found planned are ranked asked hit wrote =
    let about = about_of sheet plan.turns in
    let playouts = counted_playouts options (looks_of about plan) in
    let same : text bytes (looks_line looks found) playouts ≡ summed_up options number about plan found =
    ap (λ bytes. text bytes (looks_line looks found) playouts)
    (wrote ∙ ap (λ records. bench_text number records standings) are ∙ ap (bench_text number (matches_of about plan)) ranked)
    ∙ ap (λ looks. text (bench_text number (matches_of about plan) (standings_of plan (matches_of about plan))) (looks_line looks found) playouts) asked in
    subst (λ (plan : Plan). IsSummedUp options number (about_of sheet plan.turns) plan (text bytes (looks_line looks found) playouts)) planned (found, hit, same)

-- no more steps than playouts are counted for the series
pub few_steps : (options : Options) (number : ℕ) (sheet : Sheet) (plan : Plan) (steps steps' : ℕ) (answer : Answer) → plan ≡ bench_plan number
    → ((other : Sheet) → IsTrickGame other → other ≡ sheet) → IsBenchAnswer options number answer
    → steps' ≤ steps + counted_playouts options (looks_of (about_of sheet plan.turns) plan) → steps' ≤ steps + playouts_of answer
few_steps options number sheet plan steps steps' answer planned one is few =
    let playouts = λ (sheet : Sheet) (plan : Plan). counted_playouts options (looks_of (about_of sheet plan.turns) plan) in
    let own : playouts_of answer ≡ playouts is.0 (bench_plan number) = ap playouts_of is.2.2 in
    let game : playouts is.0 (bench_plan number) ≡ playouts sheet (bench_plan number) = ap (λ sheet. playouts sheet (bench_plan number)) (one is.0 is.1) in
    let same : playouts sheet plan ≡ playouts sheet (bench_plan number) = ap (playouts sheet) planned in
    omega (arith, few, own, game, same)
