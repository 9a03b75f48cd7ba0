use Rattle.codespan_native.proofs.FirstInvalid.{by_index}
use Rattle.codespan_native.specs.Validity.{HasValidStyle, HasValidMessage, HasValidName}
use Rattle.codespan_native.specs.Validity.{HasValidSource, HasValidLines, HasValidLocations}
use Rattle.codespan_native.specs.Validity.{HasValidFile, HasZeroReserved, HasZeroWords}
use Rattle.codespan_native.specs.Validity.{IsValidText}
use Rattle.codespan_native.proofs.validate.invalid_index.Goals as goal

pub returns-in-Character : goal.returns-in-Character
returns-in-Character c = rw c.in-Character.is c.character_index.ensures

pub returns-in-Color : goal.returns-in-Color
returns-in-Color c = rw c.in-Color.is c.color_index.ensures

pub returns-in-FileName : goal.returns-in-FileName
returns-in-FileName c = rw c.in-FileName.is (by_index HasValidName _ _ c.name_index.ensures)

pub returns-in-FileSource : goal.returns-in-FileSource
returns-in-FileSource c = rw c.in-FileSource.is (by_index HasValidSource _ _ c.source_index.ensures)

pub returns-in-FileLines : goal.returns-in-FileLines
returns-in-FileLines c = rw c.in-FileLines.is (by_index HasValidLines _ _ c.lines_index.ensures)

pub returns-in-FileLocations : goal.returns-in-FileLocations
returns-in-FileLocations c =
    rw c.in-FileLocations.is (by_index HasValidLocations _ _ c.locations_index.ensures)

pub returns-in-FileReserved : goal.returns-in-FileReserved
returns-in-FileReserved c =
    rw c.in-FileReserved.is (by_index HasZeroReserved _ _ c.file_reserved_index.ensures)

pub returns-in-LabelStyle : goal.returns-in-LabelStyle
returns-in-LabelStyle c =
    rw c.in-LabelStyle.is (by_index HasValidStyle _ _ c.label_style_index.ensures)

pub returns-in-LabelMessage : goal.returns-in-LabelMessage
returns-in-LabelMessage c =
    rw c.in-LabelMessage.is (by_index HasValidMessage _ _ c.label_message_index.ensures)

pub returns-in-LabelFile : goal.returns-in-LabelFile
returns-in-LabelFile c =
    rw c.in-LabelFile.is (by_index (HasValidFile _) _ _ c.label_file_index.ensures)

pub returns-in-LabelReserved : goal.returns-in-LabelReserved
returns-in-LabelReserved c =
    rw c.in-LabelReserved.is (by_index HasZeroWords _ _ c.label_reserved_index.ensures)

pub returns-in-Note : goal.returns-in-Note
returns-in-Note c = rw c.in-Note.is (by_index IsValidText _ _ c.note_index.ensures)
