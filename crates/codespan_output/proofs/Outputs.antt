-- whole outputs
pub mod EqualConfigs
pub mod Loci
pub mod RichOutputs
pub mod RowEquations
pub mod StatedNames
pub mod ViewPictures
