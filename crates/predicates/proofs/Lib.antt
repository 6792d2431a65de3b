pub mod NodeLaws
pub mod FieldLaws
pub mod SelectLaws
