pub mod BigModule
