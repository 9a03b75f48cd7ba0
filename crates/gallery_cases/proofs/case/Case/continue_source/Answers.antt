use Rattle.std.proofs.Common.{refl}
use Rattle.gallery_cases.proofs.LastCase.{last_continues}
use Rattle.gallery_cases.proofs.case.Case.continue_source.Goals as goal

pub returns-clause-files : goal.returns-clause-files
returns-clause-files c =
    last_continues c.args.self.now.files.items _ c.args.text.now c.in-Some.file.now
    c.push_str.new.self c.args.self.now.files.ok.0 (c.in-Some.ensures.variant.0 refl)
    c.in-Some.ensures.value c.in_ok-push_str.ensures.bytes
