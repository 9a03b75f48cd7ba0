use Rattle.std.proofs.Common.{refl}
use Rattle.gallery_cases.specs.Words.{case_word_named}
use Rattle.gallery_cases.proofs.words.parse_word.Goals as goal

pub returns-in-database : goal.returns-in-database
unfolding case_word_named
returns-in-database c = rw c.in-database.is refl

pub returns-in-file : goal.returns-in-file
unfolding case_word_named
returns-in-file c = rw c.in-file.is refl

pub returns-in-number : goal.returns-in-number
unfolding case_word_named
returns-in-number c = rw c.in-number.is refl

pub returns-in-style : goal.returns-in-style
unfolding case_word_named
returns-in-style c = rw c.in-style.is refl

pub returns-in-layout : goal.returns-in-layout
unfolding case_word_named
returns-in-layout c = rw c.in-layout.is refl

pub returns-in-tab : goal.returns-in-tab
unfolding case_word_named
returns-in-tab c = rw c.in-tab.is refl

pub returns-in-context : goal.returns-in-context
unfolding case_word_named
returns-in-context c = rw c.in-context.is refl

pub returns-in-characters : goal.returns-in-characters
unfolding case_word_named
returns-in-characters c = rw c.in-characters.is refl

pub returns-in-colors : goal.returns-in-colors
unfolding case_word_named
returns-in-colors c = rw c.in-colors.is refl

pub returns-in-severity : goal.returns-in-severity
unfolding case_word_named
returns-in-severity c = rw c.in-severity.is refl

pub returns-in-code : goal.returns-in-code
unfolding case_word_named
returns-in-code c = rw c.in-code.is refl

pub returns-in-message : goal.returns-in-message
unfolding case_word_named
returns-in-message c = rw c.in-message.is refl

pub returns-in-primary : goal.returns-in-primary
unfolding case_word_named
returns-in-primary c = rw c.in-primary.is refl

pub returns-in-secondary : goal.returns-in-secondary
unfolding case_word_named
returns-in-secondary c = rw c.in-secondary.is refl

pub returns-in-note : goal.returns-in-note
unfolding case_word_named
returns-in-note c = rw c.in-note.is refl
