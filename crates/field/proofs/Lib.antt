-- Laws of the field, of its bytes and numbers, and of the mixing.
pub mod Below
pub mod XorLaws
pub mod FieldLaws
pub mod MixingLaws
pub mod PackLaws
