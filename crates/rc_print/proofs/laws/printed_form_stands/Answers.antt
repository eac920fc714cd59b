use Rattle.rc_base.specs.Limits.{most_open}
use Rattle.rc_print.proofs.CopiedSheet.{sheet_copied}
use Rattle.rc_print.proofs.laws.printed_form_stands.Goals as goal

pub returns-clause-stands : goal.returns-clause-stands
returns-clause-stands c = λ sheet formed.
    let shallow = formed.shallow in (sheet_copied sheet formed.words shallow.0 shallow.1).stands

pub returns-clause-bare : goal.returns-clause-bare
returns-clause-bare c = λ sheet formed. let shallow = formed.shallow in (sheet_copied sheet formed.words shallow.0 shallow.1).bare

pub returns-clause-form : goal.returns-clause-form
returns-clause-form c = λ sheet form formed stands. (sheet_copied sheet formed.words form stands).spelled

pub returns-clause-shallow : goal.returns-clause-shallow
returns-clause-shallow c = λ sheet formed.
    let shallow = formed.shallow in (sheet_copied sheet formed.words shallow.0 shallow.1).opened most_open shallow.2
