-- Machines that go back to where they stood.
use Rattle.std.proofs.Common.{◌≡◌, false, suc, List, [], ◌∷◌, ◌++◌, length, sym, ap, ◌∙◌, subst, append_assoc, length-append, arith}
use Rattle.rc_play_spec.specs.Table.{Table}
use Rattle.rc_play_spec.specs.About.{About}
use Rattle.rc_play_spec.specs.Step.{Config}
use Rattle.rc_code.specs.Instruction.{Instruction}
use Rattle.rc_flat.specs.Flat.{config_of}
use Rattle.rc_flat.specs.Machine.{Machine, tables_of, KeepsTables}
use Rattle.rc_flat.specs.MarkedMoments.{flat_marked, IsInMatch}
use Rattle.rc_flat.specs.Marks.{IsMark}
use Rattle.rc_flat.specs.declared.marks.Mark.{Mark}
use Rattle.rc_flat.proofs.MomentLemmas.{same_marked}

abbrev rest_of : {X : Type 0} → List X → List X
rest_of [] = []
rest_of (x ∷ xs) = xs

-- two ends of one list that are as long as each other
same_end : {X : Type 0} (xs xs' ys ys' : List X) → length ys ≡ length ys' → xs ++ ys ≡ xs' ++ ys' → ys ≡ ys'
same_end [] [] ys ys' long is = is
same_end [] (x ∷ xs') ys ys' long is =
    let whole = ap length is ∙ length-append (x ∷ xs') ys' in
    absurd (omega (arith, long, whole))
same_end (x ∷ xs) [] ys ys' long is =
    let whole = sym (length-append (x ∷ xs) ys) ∙ ap length is in
    absurd (omega (arith, long, whole))
same_end (x ∷ xs) (x' ∷ xs') ys ys' long is = same_end xs xs' ys ys' long (ap rest_of is)

pub keeps_then : (a b c : Machine) → KeepsTables a b → KeepsTables b c → KeepsTables a c
keeps_then a b c first then =
    record {
      about = then.about ∙ first.about;
      code = then.code ∙ first.code;
      notes = then.notes ∙ first.notes;
      behind = λ on.
          let one = first.behind on in
          let two = then.behind (first.notes ∙ on) in
          (two.0 ++ one.0, two.1 ∙ ap (λ ts. two.0 ++ ts) one.1 ∙ sym (append_assoc two.0 one.0 (tables_of a)));
      home = then.home ∙ first.home;
    }

marked_still : (a b : Machine) (mark : Mark) (config : Config) → KeepsTables a b → IsMark a mark config →
    flat_marked b.about b.code (tables_of b) mark ≡ flat_marked a.about a.code (tables_of a) mark
marked_still a b mark config keeps is =
    let le = is.edits in
    let more = keeps.behind is.notes in
    ap (λ (about : About). flat_marked about b.code (tables_of b) mark) keeps.about
    ∙ ap (λ (code : List Instruction). flat_marked a.about code (tables_of b) mark) keeps.code
    ∙ same_marked a.about a.code (tables_of b) (tables_of a) more.0 mark more.1 (omega (arith, le))

-- a mark stays a mark
pub keeps_mark : (a b : Machine) (mark : Mark) (config : Config) → KeepsTables a b → IsMark a mark config → IsMark b mark config
keeps_mark a b mark config keeps is =
    let more = keeps.behind is.notes in
    let whole = ap length more.1 ∙ length-append more.0 (tables_of a) in
    let le = is.edits in
    let same = marked_still a b mark config keeps is in
    record {
      notes = keeps.notes ∙ is.notes;
      edits = omega (arith, whole, le);
      on = subst IsInMatch (sym same) is.on;
      there = ap config_of same ∙ is.there;
    }

-- and leads to one configuration
pub one_mark : (m : Machine) (mark : Mark) (config other : Config) → IsMark m mark config → IsMark m mark other → config ≡ other
one_mark m mark config other is is' = sym is.there ∙ is'.there

-- back at the mark it is as it was
pub whole_again : (a b c : Machine) (mark : Mark) (gone : List Table) → IsMark a mark a.config → mark.edits ≡ length a.before → KeepsTables a b →
    IsMark b mark c.config → tables_of b ≡ gone ++ tables_of c → length c.before ≡ mark.edits → c.about ≡ b.about → c.code ≡ b.code →
    c.notes ≡ b.notes → c.home ≡ b.home → c.spent ≡ false → a.spent ≡ false → c ≡ a
whole_again a b c mark gone is edits keeps is' back long about code notes home fresh fresh' =
    let count : length (tables_of c) ≡ length (tables_of a) = ap suc (long ∙ edits) in
    let more = keeps.behind is.notes in
    let all : tables_of c ≡ tables_of a = same_end gone more.0 (tables_of c) (tables_of a) count (sym back ∙ more.1) in
    let config : c.config ≡ a.config = one_mark b mark c.config a.config is' (keeps_mark a b mark a.config keeps is) in
    ap (λ x. record { about = x; code = c.code; config = c.config; before = c.before; notes = c.notes; home = c.home; spent = c.spent }) (about ∙ keeps.about)
    ∙ ap (λ x. record { about = a.about; code = x; config = c.config; before = c.before; notes = c.notes; home = c.home; spent = c.spent }) (code ∙ keeps.code)
    ∙ ap (λ x. record { about = a.about; code = a.code; config = x; before = c.before; notes = c.notes; home = c.home; spent = c.spent }) config
    ∙ ap (λ x. record { about = a.about; code = a.code; config = a.config; before = x; notes = c.notes; home = c.home; spent = c.spent }) (ap rest_of all)
    ∙ ap (λ x. record { about = a.about; code = a.code; config = a.config; before = a.before; notes = x; home = c.home; spent = c.spent }) (notes ∙ keeps.notes)
    ∙ ap (λ x. record { about = a.about; code = a.code; config = a.config; before = a.before; notes = a.notes; home = x; spent = c.spent }) (home ∙ keeps.home)
    ∙ ap (λ x. record { about = a.about; code = a.code; config = a.config; before = a.before; notes = a.notes; home = a.home; spent = x }) (fresh ∙ sym fresh')
