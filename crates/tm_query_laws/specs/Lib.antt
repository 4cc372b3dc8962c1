pub mod Given
