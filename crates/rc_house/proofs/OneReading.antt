-- A source is read in one way, or its forms have one first fault.
use Rattle.std.proofs.Common.{◌≡◌, ℕ, List, sym, ◌∙◌, ap}
use Rattle.rc_base.specs.Token.{tokens}
use Rattle.rc_base.specs.Tree.{Tree}
use Rattle.rc_base.specs.Spelled.{Spelled}
use Rattle.rc_form.specs.declared.fault.FormKind.{FormKind}
use Rattle.rc_form.proofs.SpellingLaws.{read-Spelled, Spelled-unique}
use Rattle.rc_form.proofs.FaultLaws.{IsFirstFault-unique}
use Rattle.rc_form.proofs.ReadIsFault.{no_fault-from_read}
use Rattle.rc_house.specs.declared.refusal.Refusal.TheVariants as refusal
use Rattle.rc_house.specs.declared.status.SourceKind.{SourceKind}
use Rattle.rc_house.specs.Status.{source_kind}
use Rattle.rc_house.specs.Reading.{Reading, HasFormFault}

-- a source spells one number of lists in one way
pub spelled_alone : (source : List ℕ) (want : ℕ) (lists others : List Tree) (rest end : ℕ)
    → Spelled source want lists rest → Spelled source want others end → (others ≡ lists) × (end ≡ rest)
spelled_alone source want lists others rest end spelled spelled' =
    Spelled-unique source want lists spelled.later rest (read-Spelled source want lists rest spelled) spelled.behind others end spelled'

pub one_reading : (source : List ℕ) (want : ℕ) (read other : Reading source want) → (other.lists ≡ read.lists) × (other.rest ≡ read.rest)
one_reading source want read other =
    spelled_alone source want read.lists other.lists read.rest other.rest read.spelled other.spelled

-- what is read has no fault of its forms
pub read_has_no_fault : (source : List ℕ) (want : ℕ) (kind : SourceKind) (at : ℕ) → Reading source want → HasFormFault source want kind at → ⊥
read_has_no_fault source want kind at read has =
    no_fault-from_read want (tokens source) read.lists read.spelled.later (read-Spelled source want read.lists read.rest read.spelled)
    has.0 at has.1

same_fault : (kind other : FormKind) (named named' : SourceKind) (at offset : ℕ) → named ≡ source_kind kind → named' ≡ source_kind other
    → kind ≡ other → at ≡ offset → refusal.Sheet named' offset ≡ refusal.Sheet named at
same_fault kind other named named' at offset is is' same here =
    let kinds : named' ≡ named = is' ∙ sym (ap source_kind same) ∙ sym is in cc

pub one_form_fault : (source : List ℕ) (want : ℕ) (kind other : SourceKind) (at offset : ℕ) → HasFormFault source want kind at
    → HasFormFault source want other offset → refusal.Sheet other offset ≡ refusal.Sheet kind at
one_form_fault source want kind other at offset has has' =
    let same = IsFirstFault-unique want (tokens source) has.0 has'.0 at offset has.1 has'.1 in
    same_fault has.0 has'.0 kind other at offset has.2 has'.2 same.0 same.1
