pub mod AgendaViews
pub mod Agendas
pub mod Storing
