-- Loci of a rich output with UTF-8 names, for the clause `renders` of `RichDiagnostic::render`.
use Rattle.codespan_core.proofs.Std.{List, AllZip, arith, common_steps}
use Rattle.codespan_core.specs.FileModel.{FileDatabase}
use Rattle.codespan_output.specs.Types.{Rich, Diagnostic}
use Rattle.codespan_output.specs.OutputStreams.{AreLoci, NamesAreUtf8, files_of}
use Rattle.codespan_output.specs.Rows.{Locus}
use Rattle.codespan_views.specs.Private.{IsLocusOfFile}
use Rattle.codespan_output.proofs.Outputs.Loci.{zip_map, zip_texts, zip_weaker}

module _ {Id : Type 0} (files : FileDatabase Id) (d : Diagnostic Id) (loci : List Locus)
    (are : AllZip IsLocusOfFile (files_of files d) loci) where
  -- those of the files' snippets are loci of the output
  pub file_loci : AreLoci files d Rich loci
  file_loci = grind (arith, common_steps, zip_map, zip_weaker)

  -- and their names are UTF-8
  pub file_texts : NamesAreUtf8 loci
  file_texts = zip_texts IsLocusOfFile (λ s p h. h.is_utf8) _ loci are
