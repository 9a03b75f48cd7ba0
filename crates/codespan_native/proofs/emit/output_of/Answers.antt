use Rattle.codespan_native.proofs.Parts.{valid_chars, valid_diagnostic, valid_files}
use Rattle.codespan_native.proofs.Rendered.{means_is, result_is}
use Rattle.codespan_native.specs.SourceModel.{native_file_views}
use Rattle.codespan_native.proofs.emit.output_of.Goals as goal

pub convert_config-settings-requires : goal.convert_config-settings-requires
convert_config-settings-requires c =
    valid_chars c.args.files.now c.args.diagnostic.now c.args.config.now c.requires

pub convert_files-requires : goal.convert_files-requires
convert_files-requires c =
    valid_files c.args.files.now c.args.diagnostic.now c.args.config.now c.requires

pub convert_diagnostic-requires : goal.convert_diagnostic-requires
convert_diagnostic-requires c =
    valid_diagnostic c.args.files.now c.args.diagnostic.now c.args.config.now c.requires

pub returns-clause-value : goal.returns-clause-value
returns-clause-value c =
    result_is _ c.convert_config-settings.result.config
    (native_file_views c.in_ok-database.database)
    c.in_ok-diagnostic.diagnostic c.args.files.now c.args.diagnostic.now c.args.config.now
    c.render.result c.render.ensures c.convert_config-settings.ensures.form
    c.convert_config-settings.ensures.config c.in_ok-database.ensures c.in_ok-diagnostic.ensures

pub returns-clause-means : goal.returns-clause-means
returns-clause-means c =
    means_is _ c.convert_config-settings.result.config
    (native_file_views c.in_ok-database.database)
    c.in_ok-diagnostic.diagnostic c.args.files.now c.args.diagnostic.now c.args.config.now
    c.render.result c.render.ensures c.convert_config-settings.ensures.config
    c.in_ok-database.ensures c.in_ok-diagnostic.ensures
