pub mod FiguresLaws
