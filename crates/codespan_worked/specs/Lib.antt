-- how worked outputs are written down
pub mod Worked
