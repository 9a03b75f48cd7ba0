use Rattle.std.proofs.Common.{◌-◌, Ok, Err, rules, sym}
use Rattle.std.proofs.lemmas.Fn.{always_returns_same}
use Rattle.codespan_native.specs.declared.raw.RawLocation.{RawLocation}
use Rattle.codespan_native.proofs.Searches.{location_found}
use Rattle.codespan_native.proofs.native_file.NativeFile.stated_location.Goals as goal

pub returns-in-Ok : goal.returns-in-Ok
returns-in-Ok c =
    let f = c.args.self.now in
    let by_key = c.in-Ok.ensures.position (λ (l : RawLocation). l.byte - f.first_byte)
    (always_returns_same _ _ _ (λ a r q k. search rules)) in
    let found =
    location_found f.first_byte f.locations.now f.ascending c.args.byte_index (Ok c.in-Ok.index)
    c.in-Ok.ensures.bound by_key in
    sym found

pub returns-in-Err : goal.returns-in-Err
returns-in-Err c =
    let f = c.args.self.now in
    let by_key = c.in-Err.ensures.position (λ (l : RawLocation). l.byte - f.first_byte)
    (always_returns_same _ _ _ (λ a r q k. search rules)) in
    let found = location_found f.first_byte f.locations.now f.ascending c.args.byte_index
    (Err c.in-Err.field-0) c.in-Err.ensures.bound by_key in
    sym found
