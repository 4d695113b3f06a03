pub mod Presets
