pub mod KindLaws
pub mod Kind
